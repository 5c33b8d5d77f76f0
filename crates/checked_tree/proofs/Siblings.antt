-- Siblings of which no two clash have distinct accessors, and so have what tells the accessor.
use Rattle.std.proofs.Common.{◌≡◌, ℕ, ◌≤◌, Bool, true, false, cond, not, ◌&&◌, ◌||◌, List, [], ◌∷◌, ◌++◌, length, map, Option, Some, None, option_map, refl, sym, ap, ap₂, ◌∙◌, subst, arith, bytes_eq}
use Rattle.std.specs.Cmp.Lexicographic.{bytes_decides}
use Rattle.std.specs.List.{AllByRecursion, list_any}
use Rattle.std.proofs.lemmas.Bool.Decides.{same_from_decides}
use Rattle.std.proofs.lemmas.Bool.{or_parts, false≢true}
use Rattle.checked_tree.specs.Names.{AreSiblings, accessor_names}
use Rattle.frag_sem.specs.Modules.{are_distinct, are_distinct_names}
use Rattle.frag_sem.proofs.Lists.{both_true}
use Rattle.overlap_check.specs.Meetings.{alone, clash_named, earlier, first_clash, met, round_clash, seen_too, under_name}
use Rattle.overlap_check.specs.Walks.{or_else}
use Rattle.svd_model.specs.Checking.{is_named}
use Rattle.svd_model.specs.Facts.{element_limit, is_counted}
use Rattle.svd_model.specs.Keys.{Key}
use Rattle.svd_model.specs.Steps.{Step, Kind, peripheral, cluster, register, field, set, value}
use Rattle.svd_rows.specs.Elements.{count}
use Rattle.svd_rows.specs.Forest.{Forest, leaf, node, steps}
use Rattle.svd_values.specs.AccessorNames.{accessor_name}

-- each of the siblings has an accessor
abbrev pub AreNamed : Forest Step Key → Type 0
AreNamed f = AllByRecursion (λ step. is_named step.kind ≡ true) (steps f)

-- ---- none found

or-none : {A : Type 0} (one other : Option A) → or_else one other ≡ None → (one ≡ None) × (other ≡ None)
or-none None other e = (refl, e)
or-none (Some x) other e = absurd cc

map-none : {A B : Type 0} (f : A → B) (o : Option A) → option_map f o ≡ None → o ≡ None
map-none f None e = refl
map-none f (Some x) e = absurd cc

-- what is said where no two siblings clash, of the first, of those below it, and of the others
pub record NoneClashes (seen : List (List ℕ × List ℕ)) (step : Step) (children others : Forest Step Key) : Type 0 where
  pub here : earlier step seen ≡ None
  pub below : first_clash [] children ≡ None
  pub behind : first_clash (seen_too step seen) others ≡ None

pub none-clashes : (seen : List (List ℕ × List ℕ)) (step : Step) (keys : List Key) (children others : Forest Step Key) → first_clash seen (node step keys children others) ≡ None → NoneClashes seen step children others
unfolding first_clash
none-clashes seen step keys children others none =
    let one = or-none (option_map (λ first. alone first step.name) (earlier step seen)) _ none in
    let two = or-none (clash_named step.name (first_clash [] children)) (first_clash (seen_too step seen) others) one.1 in
    record {
      here = map-none (λ first. alone first step.name) (earlier step seen) one.0;
      below = map-none (round_clash step.name) (first_clash [] children) two.0;
      behind = two.1;
    }

-- ---- distinct accessors

turned : (one other : List ℕ) → bytes_eq one other ≡ bytes_eq other one
turned one other =
    same_from_decides (bytes_eq one other) (bytes_eq other one) (bytes_decides one other)
    ((λ e. sym ((bytes_decides other one).0 e)), (λ e. (bytes_decides other one).1 (sym e)))

-- none of the names is the accessor of one that was seen
abbrev Apart : List (List ℕ) → List (List ℕ × List ℕ) → Type 0
Apart names seen = AllByRecursion (λ entry. list_any (bytes_eq entry.0) names ≡ false) seen

apart-none : (seen : List (List ℕ × List ℕ)) → Apart [] seen
apart-none [] = tt
apart-none (entry ∷ seen) = (refl, apart-none seen)

-- the names are apart from those seen and from one more
apart-split : (names : List (List ℕ)) (seen : List (List ℕ × List ℕ)) (entry : List ℕ × List ℕ) → Apart names (seen ++ entry ∷ []) → Apart names seen × (list_any (bytes_eq entry.0) names ≡ false)
apart-split names [] entry all = (tt, all.0)
apart-split names (other ∷ seen) entry all = let more = apart-split names seen entry all.1 in ((all.0, more.0), more.1)

apart-more : (name : List ℕ) (names : List (List ℕ)) (seen : List (List ℕ × List ℕ)) → under_name name seen ≡ None → Apart names seen → Apart (name ∷ names) seen
apart-more name names [] none all = tt
apart-more name names (entry ∷ seen) none all = by (bytes_eq name entry.0) refl none (λ found. apart-more name names seen found all.1)
  where
    by : (b : Bool) → bytes_eq name entry.0 ≡ b → cond b (Some entry.1) (under_name name seen) ≡ None → (under_name name seen ≡ None → Apart (name ∷ names) seen) → Apart (name ∷ names) (entry ∷ seen)
    by true e found more = absurd cc
    by false e found more = (ap₂ (λ a b. a || b) (turned entry.0 name ∙ e) all.0, more found)

pub first-distinct : (name : List ℕ) (names : List (List ℕ)) → list_any (bytes_eq name) names ≡ false → are_distinct_names names ≡ true → are_distinct_names (name ∷ names) ≡ true
unfolding are_distinct
first-distinct name names apart distinct = ap₂ (λ a b. not a && b) apart distinct

searched : (seen : List (List ℕ × List ℕ)) (f : Forest Step Key) → first_clash seen f ≡ None → AreNamed f → Apart (accessor_names f) seen × (are_distinct_names (accessor_names f) ≡ true)
unfolding steps are_distinct met
searched seen leaf none named = (apart-none seen, refl)
searched seen (node step keys children others) none named =
    let parts = none-clashes seen step keys children others none in
    let here : under_name (accessor_name step.name) seen ≡ None = ap (λ b. cond b (met step.name seen) None) (sym named.0) ∙ parts.here in
    let behind = subst (λ b. first_clash (cond b (seen ++ (accessor_name step.name, step.name) ∷ []) seen) others ≡ None) named.0 parts.behind in
    let more = searched (seen ++ (accessor_name step.name, step.name) ∷ []) others behind named.1 in
    let split = apart-split (accessor_names others) seen (accessor_name step.name, step.name) more.0 in
    (apart-more (accessor_name step.name) (accessor_names others) seen here split.0, first-distinct (accessor_name step.name) (accessor_names others) split.1 more.1)

-- ---- not too many

named-counted : (kind : Kind) (name : List ℕ) (number : ℕ) → is_named kind ≡ true → is_counted (record { kind = kind; name = name; number = number }) ≡ true
named-counted peripheral name number e = refl
named-counted cluster name number e = refl
named-counted register name number e = refl
named-counted field name number e = refl
named-counted set name number e = absurd cc
named-counted value name number e = absurd cc

counted : (f : Forest Step Key) → AreNamed f → length (steps f) ≤ count is_counted f
unfolding steps count
counted leaf named = omega arith
counted (node step keys children others) named =
    let more = counted others named.1 in
    let one : ◌≡◌ {A = ℕ} (cond (is_counted step) 1 0) 1 = ap (λ b. cond b 1 0) (named-counted step.kind step.name step.number named.0) in
    omega (arith, more, one)

-- those below the first, and the others, are no more than all
pub fewer : (limit : ℕ) (step : Step) (keys : List Key) (children others : Forest Step Key) → count is_counted (node step keys children others) ≤ limit → (count is_counted children ≤ limit) × (count is_counted others ≤ limit)
unfolding count
fewer limit step keys children others few = (omega (arith, few), omega (arith, few))

pub are-siblings : (f : Forest Step Key) → AreNamed f → first_clash [] f ≡ None → count is_counted f ≤ element_limit → AreSiblings f
are-siblings f named none few = let all = counted f named in record { names = (searched [] f none named).1; few = omega (arith, all, few) }

-- ---- what tells the accessor

-- where equal names of the second kind come of equal names of the first, they are distinct where those are
pub tells-distinct : {X : Type 0} (P : X → Type 0) (first second : X → List ℕ) → ((one other : X) → P one → P other → second one ≡ second other → first one ≡ first other) → (xs : List X) → AllByRecursion P xs → are_distinct_names (map first xs) ≡ true → are_distinct_names (map second xs) ≡ true
unfolding are_distinct
tells-distinct P first second tells [] all distinct = refl
tells-distinct {X = X} P first second tells (x ∷ xs) all distinct =
    let parts = both_true (not (list_any (bytes_eq (first x)) (map first xs))) (are_distinct_names (map first xs)) distinct in
    first-distinct (second x) (map second xs) (apart xs all.1 (off (list_any (bytes_eq (first x)) (map first xs)) parts.0)) (tells-distinct P first second tells xs all.1 parts.1)
  where
    off : (b : Bool) → not b ≡ true → b ≡ false
    off true e = absurd cc
    off false e = refl

    apart : (ys : List X) → AllByRecursion P ys → list_any (bytes_eq (first x)) (map first ys) ≡ false → list_any (bytes_eq (second x)) (map second ys) ≡ false
    apart [] each none = refl
    apart (y ∷ ys) each none =
        let parts = or_parts (bytes_eq (first x) (first y)) (list_any (bytes_eq (first x)) (map first ys)) none in
        by (bytes_eq (second x) (second y)) refl parts.0 (apart ys each.1 parts.1)
      where
        by : (b : Bool) → bytes_eq (second x) (second y) ≡ b → bytes_eq (first x) (first y) ≡ false → list_any (bytes_eq (second x)) (map second ys) ≡ false → (b || list_any (bytes_eq (second x)) (map second ys)) ≡ false
        by false e differ more = more
        by true e differ more = absurd (false≢true (sym differ ∙ (bytes_decides (first x) (first y)).1 (tells x y all.0 each.0 ((bytes_decides (second x) (second y)).0 e))))
