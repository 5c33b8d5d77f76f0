-- Siblings that grow at their end: each is numbered by the tally of those before it.
use Rattle.std.proofs.Common.{◌≡◌, ℕ, suc, ◌+◌, ◌-◌, ◌^◌, ◌<◌, ◌≤◌, length, Bool, true, false, cond, ◌&&◌, nat_eq, List, [], ◌∷◌, ◌++◌, map, Option, None, Some, unwrap_or, refl, sym, ap, ap₂, ◌∙◌, subst, arith, append_assoc, append-nil}
use Rattle.std.specs.Cmp.Lexicographic.{bytes_decides}
use Rattle.std.specs.List.{AllByRecursion}
use Rattle.std.specs.Map.{lookup}
use Rattle.std.specs.Str.{bytes_eq}
use Rattle.std.proofs.lemmas.Bool.Decides.{nat_tests}
use Rattle.std.proofs.lemmas.List.{map-append, length-append, length-map}
use Rattle.indexmap.specs.IndexMap.{insert_entry}
use Rattle.dim_expand.specs.Groups.{HasDim}
use Rattle.dim_expand.specs.Marks.{has_dimension, may_be_array}
use Rattle.dim_expand.specs.Narrow.{AreFew, AreNarrow, IsNarrow}
use Rattle.dim_expand.specs.Tallies.{Tallies, names_of, Sound, Fit, Pushes}
use Rattle.dim_expand.specs.Unfolding.{count_behind, numbered_behind}
use Rattle.dim_expand.specs.Walks.{capped, capped_name, capped_step, numbered_list, unfolded_list, unfolded, groups, groups_at, group_at, group_tree, list_count}
use Rattle.dim_expand.proofs.Groups.{groups_up_to, groups-more, groups-whole}
use Rattle.dim_expand.proofs.Stated.{item-kinds}
use Rattle.svd_model.specs.declared.device.Child.{Child}
use Rattle.svd_model.specs.declared.device.Dim.{Dim}
use Rattle.svd_model.specs.declared.device.Item.{Item}
use Rattle.svd_model.specs.declared.sibling.Sibling.{Sibling}
use Rattle.svd_model.specs.Keys.{Key}
use Rattle.svd_model.specs.Steps.{Step, Kind}
use Rattle.svd_model.specs.Trees.{step_of, child_tree, item_under}
use Rattle.svd_model.proofs.Trees.{item_under-is, item_under-name}
use Rattle.svd_model.proofs.Copies.{sibling_eq}
use Rattle.svd_rows.specs.Forest.{Tree, siblings}

-- ---- counts of names

pub count-append : (before others : List (List ℕ)) (name : List ℕ) → count_behind (before ++ others) name ≡ count_behind before name + count_behind others name
count-append [] others name = zero_sum (count_behind others name)
  where
    zero_sum : (n : ℕ) → n ≡ 0 + n
    zero_sum n = omega arith
count-append (other ∷ before) others name =
    ap (λ n. cond (bytes_eq name other) 1 0 + n) (count-append before others name)
    ∙ sums (cond (bytes_eq name other) 1 0) (count_behind before name) (count_behind others name)
  where
    sums : (a b c : ℕ) → a + (b + c) ≡ (a + b) + c
    sums a b c = omega arith

pub count-one : (name : List ℕ) → count_behind (name ∷ []) name ≡ 1
count-one name = ap (λ b. cond b 1 0 + 0) ((bytes_decides name name).1 refl)

-- ---- numbered siblings

pub names-numbered : (before : List (List ℕ)) (xs : List (Step × Tree Step Key)) → names_of (numbered_list before xs) ≡ names_of xs
unfolding numbered_list numbered_behind
names-numbered before [] = refl
names-numbered before (x ∷ xs) = ap (λ r. x.0.name ∷ r) (names-numbered (before ++ x.0.name ∷ []) xs)

pub numbered-append : (before : List (List ℕ)) (xs ys : List (Step × Tree Step Key)) → numbered_list before (xs ++ ys) ≡ numbered_list before xs ++ numbered_list (before ++ names_of xs) ys
unfolding numbered_list
numbered-append before [] ys = ap (λ b. numbered_list b ys) (sym (append-nil before))
numbered-append before (x ∷ xs) ys =
    ap (λ r. (numbered_behind before x.0, x.1) ∷ r)
    (numbered-append (before ++ x.0.name ∷ []) xs ys
    ∙ ap (λ b. numbered_list (before ++ x.0.name ∷ []) xs ++ numbered_list b ys) (append_assoc before (x.0.name ∷ []) (names_of xs)))

pub names-grown : (old xs : List (Step × Tree Step Key)) → names_of (old ++ numbered_list (names_of old) xs) ≡ names_of old ++ names_of xs
names-grown old xs =
    map-append (λ (x : Step × Tree Step Key). x.0.name) old (numbered_list (names_of old) xs)
    ∙ ap (λ r. names_of old ++ r) (names-numbered (names_of old) xs)

-- ---- lengths

pub length-numbered : (before : List (List ℕ)) (xs : List (Step × Tree Step Key)) → length (numbered_list before xs) ≡ length xs
unfolding numbered_list
length-numbered before [] = refl
length-numbered before (x ∷ xs) = ap suc (length-numbered (before ++ x.0.name ∷ []) xs)

length-grown : (before : List (List ℕ)) (old xs : List (Step × Tree Step Key)) → length (old ++ numbered_list before xs) ≡ length old + length xs
length-grown before old xs = length-append old (numbered_list before xs) ∙ ap (λ n. length old + n) (length-numbered before xs)

count-within : (before : List (List ℕ)) (name : List ℕ) → count_behind before name ≤ length before
count-within [] name = omega arith
count-within (other ∷ before) name = by (bytes_eq name other) (count-within before name)
  where
    by : (b : Bool) → count_behind before name ≤ length before → cond b 1 0 + count_behind before name ≤ suc (length before)
    by true h = omega (arith, h)
    by false h = omega (arith, h)

-- of the siblings that stand there fewer have this name than the greatest number
few-of-name : (old : List (Step × Tree Step Key)) (x : Step × Tree Step Key) (name : List ℕ) → Fit old (x ∷ []) → count_behind (names_of old) name < 2 ^ 32 - 1
few-of-name old x name fit = by (count-within (names_of old) name) (length-map old (λ (y : Step × Tree Step Key). y.0.name)) fit
  where
    by : count_behind (names_of old) name ≤ length (names_of old) → length (names_of old) ≡ length old → length old + 1 < 2 ^ 32 → count_behind (names_of old) name < 2 ^ 32 - 1
    by within same few = omega (arith, within, same, few)

-- ---- siblings that are pushed

-- nothing is pushed
pub pushes_none : (tally tally_after : List (List ℕ × ℕ)) (old new : List (Step × Tree Step Key)) → tally_after ≡ tally → new ≡ old → Pushes tally old [] tally_after new
unfolding numbered_list
pushes_none tally tally_after old new same is fit sound = record {
  sound = subst (λ t. Sound t new) (sym same) (subst (Sound tally) (sym is) sound);
  grown = is ∙ sym (append-nil old);
}

-- some are pushed, and then others
pub pushes_on : (tally tally_between tally_after : List (List ℕ × ℕ)) (old xs between ys new : List (Step × Tree Step Key)) → Pushes tally old xs tally_between between → Pushes tally_between between ys tally_after new → Pushes tally old (xs ++ ys) tally_after new
pushes_on tally tally_between tally_after old xs between ys new one two fit sound =
    let first = one (fits fit (length-append xs ys)) sound in
    let second = two (follows fit (length-append xs ys) (ap length first.grown ∙ length-grown (names_of old) old xs)) first.sound in record {
      sound = second.sound;
      grown =
          second.grown
          ∙ ap (λ b. b ++ numbered_list (names_of b) ys) first.grown
          ∙ ap (λ names. (old ++ numbered_list (names_of old) xs) ++ numbered_list names ys) (names-grown old xs)
          ∙ append_assoc old (numbered_list (names_of old) xs) (numbered_list (names_of old ++ names_of xs) ys)
          ∙ ap (λ r. old ++ r) (sym (numbered-append (names_of old) xs ys));
    }
  where
    fits : Fit old (xs ++ ys) → length (xs ++ ys) ≡ length xs + length ys → Fit old xs
    fits f is = omega (arith, f, is)

    follows : Fit old (xs ++ ys) → length (xs ++ ys) ≡ length xs + length ys → length between ≡ length old + length xs → Fit between ys
    follows f is grown = omega (arith, f, is, grown)

-- the numbers stay below the counts where one more name is counted
further : (names : List (List ℕ)) (name : List ℕ) (xs : List (Step × Tree Step Key)) → AllByRecursion (λ x. x.0.number < count_behind names x.0.name) xs → AllByRecursion (λ x. x.0.number < count_behind (names ++ name ∷ []) x.0.name) xs
further names name [] h = tt
further names name (x ∷ xs) h =
    let more : count_behind (names ++ name ∷ []) x.0.name ≡ count_behind names x.0.name + count_behind (name ∷ []) x.0.name = count-append names (name ∷ []) x.0.name in
    (less (count_behind names x.0.name) (count_behind (name ∷ []) x.0.name) h.0 more, further names name xs h.1)
  where
    less : (a b : ℕ) → x.0.number < a → count_behind (names ++ name ∷ []) x.0.name ≡ a + b → x.0.number < count_behind (names ++ name ∷ []) x.0.name
    less a b below is = omega (arith, below, is)

all-behind : {X : Type 0} (P : X → Type 0) (xs : List X) (x : X) → AllByRecursion P xs → P x → AllByRecursion P (xs ++ x ∷ [])
all-behind P [] x all here = (here, tt)
all-behind P (y ∷ xs) x all here = (all.0, all-behind P xs x all.1 here)

-- a key that the tally gave goes last
pub pushed_one : (tally tally_after : List (List ℕ × ℕ)) (old new : List (Step × Tree Step Key)) (x : Step × Tree Step Key) (key : Sibling) (tree : Tree Step Key) → has_dimension x.0.kind ≡ true → key.name ≡ x.0.name → tree ≡ x.1 → ((before : List (List ℕ)) → Tallies before tally → key.number ≡ count_behind before key.name) → ((before : List (List ℕ)) → Tallies before tally → count_behind before key.name < 2 ^ 32 - 1 → Tallies (before ++ key.name ∷ []) tally_after) → (Sound tally old → new ≡ old ++ (step_of x.0.kind key, tree) ∷ []) → Pushes tally old (x ∷ []) tally_after new
unfolding numbered_list numbered_behind
pushed_one tally tally_after old new x key tree may named is numbers tallies grew fit sound = record {
  sound = record {
    counted = subst (λ names. Tallies names tally_after) (sym all_names) (tallies (names_of old) sound.counted (few-of-name old x key.name fit));
    below = subst (λ made. AllByRecursion (λ y. y.0.number < count_behind (names_of new) y.0.name) made) (sym grown)
        (subst (λ names. AllByRecursion (λ y. y.0.number < count_behind names y.0.name) (old ++ (step_of x.0.kind key, tree) ∷ [])) (sym all_names)
        (all-behind (λ y. y.0.number < count_behind (names_of old ++ key.name ∷ []) y.0.name) old (step_of x.0.kind key, tree) (further (names_of old) key.name old sound.below) last));
  };
  grown = grown ∙ ap (λ r. old ++ r ∷ []) (λ i. (record { kind = x.0.kind; name = named i; number = number_is i }, is i));
}
  where
    grown : new ≡ old ++ (step_of x.0.kind key, tree) ∷ []
    grown = grew sound

    number : key.number ≡ count_behind (names_of old) key.name
    number = numbers (names_of old) sound.counted

    number_is : key.number ≡ cond (has_dimension x.0.kind) (count_behind (names_of old) x.0.name) x.0.number
    number_is = number ∙ ap (count_behind (names_of old)) named ∙ sym (ap (λ b. cond b (count_behind (names_of old) x.0.name) x.0.number) may)

    all_names : names_of new ≡ names_of old ++ key.name ∷ []
    all_names = ap names_of grown ∙ map-append (λ (y : Step × Tree Step Key). y.0.name) old ((step_of x.0.kind key, tree) ∷ [])

    last : key.number < count_behind (names_of old ++ key.name ∷ []) key.name
    last = by (count_behind (names_of old) key.name) number (count-append (names_of old) (key.name ∷ []) key.name ∙ ap (λ n. count_behind (names_of old) key.name + n) (count-one key.name))
      where
        by : (a : ℕ) → key.number ≡ a → count_behind (names_of old ++ key.name ∷ []) key.name ≡ a + 1 → key.number < count_behind (names_of old ++ key.name ∷ []) key.name
        by a e f = omega (arith, e, f)

-- ---- a key that the tally gave is new

module _ {X : Type 0} (under : (Sibling × X) → (Step × Tree Step Key)) (kind : Kind) (is_under : (entry : Sibling × X) → (under entry).0 ≡ step_of kind entry.0) where
  apart : (names : List (List ℕ)) (key : Sibling) (entry : Sibling × X) → key.number ≡ count_behind names key.name → (under entry).0.number < count_behind names (under entry).0.name → sibling_eq key entry.0 ≡ false
  apart names key entry number below = by (bytes_eq key.name entry.0.name) refl
    where
      fewer : entry.0.number < count_behind names entry.0.name
      fewer = subst (λ (s : Step). s.number < count_behind names s.name) (is_under entry) below

      other : (n : ℕ) → key.number ≡ n → entry.0.number < n → nat_eq key.number entry.0.number ≡ false
      other n e less = grind (arith, nat_tests, e, less)

      by : (b : Bool) → bytes_eq key.name entry.0.name ≡ b → (bytes_eq key.name entry.0.name && nat_eq key.number entry.0.number) ≡ false
      by false e = ap (λ b. b && nat_eq key.number entry.0.number) e
      by true e =
          let same : key.name ≡ entry.0.name = (bytes_decides key.name entry.0.name).0 e in
          ap (λ b. b && nat_eq key.number entry.0.number) e
          ∙ other (count_behind names entry.0.name) (number ∙ ap (count_behind names) same) fewer

  absent : (names : List (List ℕ)) (key : Sibling) (entries : List (Sibling × X)) → key.number ≡ count_behind names key.name → AllByRecursion (λ x. x.0.number < count_behind names x.0.name) (map under entries) → lookup (sibling_eq key) entries ≡ None
  absent names key [] number below = refl
  absent names key (entry ∷ entries) number below =
      ap (λ b. cond b (Some entry.1) (lookup (sibling_eq key) entries)) (apart names key entry number below.0)
      ∙ absent names key entries number below.1

  pub absent_from : (tally : List (List ℕ × ℕ)) (key : Sibling) (entries : List (Sibling × X)) → ((before : List (List ℕ)) → Tallies before tally → key.number ≡ count_behind before key.name) → Sound tally (map under entries) → lookup (sibling_eq key) entries ≡ None
  absent_from tally key entries numbers sound =
      absent (names_of (map under entries)) key entries (numbers (names_of (map under entries)) sound.counted) sound.below

-- ---- all siblings

-- what is made, and what the siblings that are left come to, is the whole
pub record Growing (all : List (Step × Tree Step Key)) (tally : List (List ℕ × ℕ)) (made left : List (Step × Tree Step Key)) : Type 0 where
  pub sound : Sound tally made
  pub whole : made ++ numbered_list (names_of made) (unfolded_list capped (siblings left)) ≡ numbered_list [] (unfolded_list capped (siblings all))

pub growing_begun : (all : List (Step × Tree Step Key)) (tally : List (List ℕ × ℕ)) (made left : List (Step × Tree Step Key)) → Tallies [] tally → made ≡ [] → left ≡ all → Growing all tally made left
growing_begun all tally made left tallies none is = record {
  sound = subst (Sound tally) (sym none) (record { counted = tallies; below = tt });
  whole = ap₂ (λ m l. m ++ numbered_list (names_of m) (unfolded_list capped (siblings l))) none is;
}

unfolded_list-cons : (x : Step × Tree Step Key) (rest : List (Step × Tree Step Key)) → unfolded_list capped (siblings (x ∷ rest)) ≡ unfolded_list capped (siblings (x ∷ [])) ++ unfolded_list capped (siblings rest)
unfolding unfolded_list siblings
unfolded_list-cons x rest =
    ap (λ r. r ++ unfolded_list capped (siblings rest)) (sym (append-nil (groups capped x.0 x.1.keys (siblings (numbered_list [] (unfolded_list capped x.1.below))))))

pub growing_more : (all : List (Step × Tree Step Key)) (tally tally_after : List (List ℕ × ℕ)) (made new left rest : List (Step × Tree Step Key)) (x : Step × Tree Step Key) → AreFew (siblings all) → Growing all tally made left → left ≡ x ∷ rest → Pushes tally made (unfolded_list capped (siblings (x ∷ []))) tally_after new → Growing all tally_after new rest
growing_more all tally tally_after made new left rest x few so_far is pushes =
    let grew = pushes (fits (sym (length-grown (names_of made) made (unfolded_list capped (siblings left))) ∙ ap length so_far.whole ∙ length-numbered [] (unfolded_list capped (siblings all))) (ap length (ap (λ l. unfolded_list capped (siblings l)) is ∙ unfolded_list-cons x rest) ∙ length-append here others) few) so_far.sound in record {
      sound = grew.sound;
      whole =
          ap (λ m. m ++ numbered_list (names_of m) others) grew.grown
          ∙ ap (λ names. (made ++ numbered_list (names_of made) here) ++ numbered_list names others) (names-grown made here)
          ∙ append_assoc made (numbered_list (names_of made) here) (numbered_list (names_of made ++ names_of here) others)
          ∙ ap (λ r. made ++ r) (sym (numbered-append (names_of made) here others))
          ∙ sym (ap (λ l. made ++ numbered_list (names_of made) l) (ap (λ l. unfolded_list capped (siblings l)) is ∙ unfolded_list-cons x rest))
          ∙ so_far.whole;
    }
  where
    here : List (Step × Tree Step Key)
    here = unfolded_list capped (siblings (x ∷ []))

    others : List (Step × Tree Step Key)
    others = unfolded_list capped (siblings rest)

    fits : length made + length (unfolded_list capped (siblings left)) ≡ length (unfolded_list capped (siblings all)) → length (unfolded_list capped (siblings left)) ≡ length here + length others → AreFew (siblings all) → Fit made here
    fits whole parts within = omega (arith, whole, parts, within)

-- what is narrow below siblings is so below the first and below the others
pub narrow_first : (x : Step × Tree Step Key) (rest : List (Step × Tree Step Key)) → AreNarrow (siblings (x ∷ rest)) → IsNarrow (x.0.kind, x.1) × AreNarrow (siblings rest)
unfolding AreNarrow siblings
narrow_first x rest h = h

-- and below a child
pub narrow_child : (item : Item) → IsNarrow ((item_under item).0.kind, (item_under item).1) → IsNarrow (child_tree item.child)
narrow_child item h = subst (λ (x : Step × Tree Step Key). IsNarrow (x.0.kind, x.1)) (item_under-is item) h

pub growing_done : (all : List (Step × Tree Step Key)) (tally : List (List ℕ × ℕ)) (made left : List (Step × Tree Step Key)) → Growing all tally made left → left ≡ [] → siblings made ≡ unfolded capped (siblings all)
unfolding unfolded unfolded_list numbered_list siblings
growing_done all tally made left so_far none =
    ap siblings (sym (append-nil made) ∙ sym (ap (λ l. made ++ numbered_list (names_of made) (unfolded_list capped (siblings l))) none) ∙ so_far.whole)

-- ---- one more group

pub pushes_more : (tally tally_between tally_after : List (List ℕ × ℕ)) (old between new : List (Step × Tree Step Key)) (x : Step × Tree Step Key) (count : Option ℕ) (place : ℕ) (group : Option ℕ) → group ≡ group_at count place → Pushes tally old (groups_at capped x (groups_up_to count place)) tally_between between → Pushes tally_between between (groups_at capped x (group ∷ [])) tally_after new → Pushes tally old (groups_at capped x (groups_up_to count (place + 1))) tally_after new
pushes_more tally tally_between tally_after old between new x count place group is one two =
    subst (λ xs. Pushes tally old xs tally_after new)
    (sym (ap (groups_at capped x) (groups-more count place ∙ ap (λ g. groups_up_to count place ++ g ∷ []) (sym is)) ∙ map-append (λ g. (capped.step x.0 x.1.keys g, group_tree capped x.1 g)) (groups_up_to count place) (group ∷ [])))
    (pushes_on tally tally_between tally_after old (groups_at capped x (groups_up_to count place)) between (groups_at capped x (group ∷ [])) new one two)

pub pushes_whole : (tally tally_after : List (List ℕ × ℕ)) (old new : List (Step × Tree Step Key)) (x : Step × Tree Step Key) (dim : Dim) (count : Option ℕ) (place : ℕ) → has_dimension x.0.kind ≡ true → HasDim x.1.keys dim → count ≡ list_count (may_be_array x.0.kind) x.0.name dim.count → place ≡ unwrap_or count 1 → Pushes tally old (groups_at capped x (groups_up_to count place)) tally_after new → Pushes tally old (unfolded_list capped (siblings (x ∷ []))) tally_after new
pushes_whole tally tally_after old new x dim count place may says is past pushes =
    subst (λ xs. Pushes tally old xs tally_after new)
    (ap (λ n. groups_at capped x (groups_up_to count n)) past ∙ groups-whole capped x dim count may says is)
    pushes

-- ---- a group of an element that goes last

insert-last : {X : Type 0} (entries : List (Sibling × X)) (key : Sibling) (value : X) → lookup (sibling_eq key) entries ≡ None → insert_entry sibling_eq entries key value ≡ entries ++ (key, value) ∷ []
insert-last [] key value none = refl
insert-last (entry ∷ entries) key value none = by (sibling_eq key entry.0) none (insert-last entries key value)
  where
    by : (b : Bool) → cond b (Some entry.1) (lookup (sibling_eq key) entries) ≡ None → (lookup (sibling_eq key) entries ≡ None → insert_entry sibling_eq entries key value ≡ entries ++ (key, value) ∷ []) → cond b ((entry.0, value) ∷ entries) (entry ∷ insert_entry sibling_eq entries key value) ≡ entry ∷ (entries ++ (key, value) ∷ [])
    by true e rest = absurd cc
    by false e rest = ap (λ r. entry ∷ r) (rest e)

-- the name that a group has
group-named : (x : Step × Tree Step Key) (dim : Dim) (name : List ℕ) (group : Option ℕ) → HasDim x.1.keys dim → name ≡ capped_name x.0.name dim.index group → name ≡ (capped_step x.0 x.1.keys group).name
unfolding capped_step
group-named x dim name group says is = is ∙ ap (λ index. capped_name x.0.name index group) (sym says.index)

-- what is known of a key that the tally gave to this name
pub record IsNext (tally tally_after : List (List ℕ × ℕ)) (name : List ℕ) (key : Sibling) : Type 0 where
  pub named : key.name ≡ name
  pub number : (before : List (List ℕ)) → Tallies before tally → key.number ≡ count_behind before name
  pub tallies : (before : List (List ℕ)) → Tallies before tally → count_behind before name < 2 ^ 32 - 1 → Tallies (before ++ name ∷ []) tally_after

group-pushed : (tally tally_after : List (List ℕ × ℕ)) (old new : List (Step × Tree Step Key)) (x : Step × Tree Step Key) (dim : Dim) (group : Option ℕ) (name : List ℕ) (key : Sibling) (tree : Tree Step Key) → has_dimension x.0.kind ≡ true → HasDim x.1.keys dim → name ≡ capped_name x.0.name dim.index group → IsNext tally tally_after name key → tree ≡ group_tree capped x.1 group → (Sound tally old → new ≡ old ++ (step_of x.0.kind key, tree) ∷ []) → Pushes tally old (groups_at capped x (group ∷ [])) tally_after new
unfolding capped_step
group-pushed tally tally_after old new x dim group name key tree may says is next made grew =
    pushed_one tally tally_after old new (capped_step x.0 x.1.keys group, group_tree capped x.1 group) key tree may
    (next.named ∙ group-named x dim name group says is) made
    (λ before t. next.number before t ∙ ap (count_behind before) (sym next.named))
    (λ before t few. subst (λ n. Tallies (before ++ n ∷ []) tally_after) (sym next.named) (next.tallies before t (subst (λ n. count_behind before n < 2 ^ 32 - 1) next.named few)))
    grew

-- in a map
pub entry-pushed : {X : Type 0} (under : (Sibling × X) → (Step × Tree Step Key)) (kind : Kind) → ((entry : Sibling × X) → (under entry).0 ≡ step_of kind entry.0) → (tally tally_after : List (List ℕ × ℕ)) (entries new : List (Sibling × X)) (x : Step × Tree Step Key) (dim : Dim) (group : Option ℕ) (name : List ℕ) (key : Sibling) (value : X) → x.0.kind ≡ kind → has_dimension kind ≡ true → HasDim x.1.keys dim → name ≡ capped_name x.0.name dim.index group → IsNext tally tally_after name key → (under (key, value)).1 ≡ group_tree capped x.1 group → new ≡ insert_entry sibling_eq entries key value → Pushes tally (map under entries) (groups_at capped x (group ∷ [])) tally_after (map under new)
entry-pushed under kind is_under tally tally_after entries new x dim group name key value is_kind may says is next made grew =
    group-pushed tally tally_after (map under entries) (map under new) x dim group name key (under (key, value)).1 (ap has_dimension is_kind ∙ may) says is next made
    (λ sound.
    ap (map under) (grew ∙ insert-last entries key value (absent_from under kind is_under tally key entries (λ before t. next.number before t ∙ ap (count_behind before) (sym next.named)) sound))
    ∙ map-append under entries ((key, value) ∷ [])
    ∙ ap (λ s. map under entries ++ (s, (under (key, value)).1) ∷ []) (is_under (key, value) ∙ ap (λ k. step_of k key) (sym is_kind)))

-- in a list of children
pub item-pushed : (tally tally_after : List (List ℕ × ℕ)) (items new : List Item) (item made : Item) (dim : Dim) (group : Option ℕ) (name : List ℕ) (key : Sibling) (child : Child) → HasDim (child_tree item.child).1.keys dim → name ≡ capped_name item.key.name dim.index group → IsNext tally tally_after name key → child_tree child ≡ ((child_tree item.child).0, group_tree capped (child_tree item.child).1 group) → item_under made ≡ (step_of (child_tree child).0 key, (child_tree child).1) → new ≡ items ++ made ∷ [] → Pushes tally (map item_under items) (groups_at capped (item_under item) (group ∷ [])) tally_after (map item_under new)
item-pushed tally tally_after items new item made dim group name key child says is next tree made_is grew =
    subst (λ x. Pushes tally (map item_under items) (groups_at capped x (group ∷ [])) tally_after (map item_under new)) (sym (item_under-is item))
    (group-pushed tally tally_after (map item_under items) (map item_under new) (step_of (child_tree item.child).0 item.key, (child_tree item.child).1) dim group name key (child_tree child).1
    (subst (λ (x : Step × Tree Step Key). has_dimension x.0.kind ≡ true) (item_under-is item) (item-kinds item).0)
    says is next (ap (λ (t : Kind × Tree Step Key). t.1) tree)
    (λ sound.
    ap (map item_under) grew
    ∙ map-append item_under items (made ∷ [])
    ∙ ap (λ y. map item_under items ++ y ∷ []) (made_is ∙ ap (λ k. (step_of k key, (child_tree child).1)) (ap (λ (t : Kind × Tree Step Key). t.0) tree))))

-- ---- tallies

lookup-insert : (entries : List (List ℕ × ℕ)) (key : List ℕ) (value : ℕ) (name : List ℕ) → lookup (bytes_eq name) (insert_entry bytes_eq entries key value) ≡ cond (bytes_eq name key) (Some value) (lookup (bytes_eq name) entries)
lookup-insert [] key value name = refl
lookup-insert (entry ∷ entries) key value name = by (bytes_eq key entry.0) refl (lookup-insert entries key value name)
  where
    others : Option ℕ
    others = lookup (bytes_eq name) entries

    different : (a b : Bool) → bytes_eq name entry.0 ≡ a → bytes_eq name key ≡ b → bytes_eq key entry.0 ≡ false → cond a (Some entry.1) (cond b (Some value) others) ≡ cond b (Some value) (cond a (Some entry.1) others)
    different true true e f g =
        let one : name ≡ entry.0 = (bytes_decides name entry.0).0 e in
        let two : name ≡ key = (bytes_decides name key).0 f in
        let three : bytes_eq key entry.0 ≡ true = (bytes_decides key entry.0).1 (sym two ∙ one) in
        absurd (let h : true ≡ false = sym three ∙ g in cc)
    different true false e f g = refl
    different false true e f g = refl
    different false false e f g = refl

    by : (b : Bool) → bytes_eq key entry.0 ≡ b → lookup (bytes_eq name) (insert_entry bytes_eq entries key value) ≡ cond (bytes_eq name key) (Some value) others → lookup (bytes_eq name) (cond b ((entry.0, value) ∷ entries) (entry ∷ insert_entry bytes_eq entries key value)) ≡ cond (bytes_eq name key) (Some value) (cond (bytes_eq name entry.0) (Some entry.1) others)
    by true is rest =
        let same : key ≡ entry.0 = (bytes_decides key entry.0).0 is in
        ap (λ k. cond (bytes_eq name k) (Some value) others) (sym same)
        ∙ twice (bytes_eq name key) (bytes_eq name entry.0) (ap (bytes_eq name) same)
      where
        twice : (a b : Bool) → a ≡ b → cond a (Some value) others ≡ cond a (Some value) (cond b (Some entry.1) others)
        twice true b e = refl
        twice false false e = refl
        twice false true e = absurd cc
    by false is rest =
        ap (λ o. cond (bytes_eq name entry.0) (Some entry.1) o) rest
        ∙ different (bytes_eq name entry.0) (bytes_eq name key) refl refl is

pub tally_more : (before : List (List ℕ)) (entries new : List (List ℕ × ℕ)) (key name : List ℕ) (count : ℕ) → Tallies before entries → new ≡ insert_entry bytes_eq entries key count → key ≡ name → count ≡ count_behind before name + 1 → Tallies (before ++ name ∷ []) new
tally_more before entries new key name count tallies grew is one other =
    ap (λ es. unwrap_or (lookup (bytes_eq other) es) 0) (grew ∙ ap (λ k. insert_entry bytes_eq entries k count) is)
    ∙ ap (λ o. unwrap_or o 0) (lookup-insert entries name count other)
    ∙ by (bytes_eq other name) refl
    ∙ sym (count-append before (name ∷ []) other)
  where
    by : (b : Bool) → bytes_eq other name ≡ b → unwrap_or (cond b (Some count) (lookup (bytes_eq other) entries)) 0 ≡ count_behind before other + (cond b 1 0 + 0)
    by true e =
        let same : other ≡ name = (bytes_decides other name).0 e in
        one ∙ ap (λ n. count_behind before n + 1) (sym same)
    by false e = tallies other ∙ plain (count_behind before other)
      where
        plain : (n : ℕ) → n ≡ n + (0 + 0)
        plain n = omega arith

-- all groups of a child
pub items_whole : (tally tally_after : List (List ℕ × ℕ)) (old new : List (Step × Tree Step Key)) (item : Item) (dim : Dim) (count : Option ℕ) (place : ℕ) → HasDim (child_tree item.child).1.keys dim → count ≡ list_count true item.key.name dim.count → place ≡ unwrap_or count 1 → Pushes tally old (groups_at capped (item_under item) (groups_up_to count place)) tally_after new → Pushes tally old (unfolded_list capped (siblings (item_under item ∷ []))) tally_after new
items_whole tally tally_after old new item dim count place says is past pushes =
    pushes_whole tally tally_after old new (item_under item) dim count place (item-kinds item).0
    (subst (λ (x : Step × Tree Step Key). HasDim x.1.keys dim) (sym (item_under-is item)) says)
    (is ∙ ap₂ (λ arrays name. list_count arrays name dim.count) (sym (item-kinds item).1) (sym (item_under-name item)))
    past pushes
