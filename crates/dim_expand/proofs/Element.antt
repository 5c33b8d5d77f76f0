-- One element whose dimension is without fault: its groups are made without a sum that stops short, and each has the form of
-- what is unfolded.
use Rattle.std.proofs.Common.{◌≡◌, ℕ, zero, suc, ◌+◌, ◌-◌, ◌*◌, ◌^◌, ◌≤◌, ◌<◌, Bool, true, false, cond, not, ◌&&◌, ◌||◌, nat_lt, nat_eq, List, [], ◌∷◌, length, map, filter, Option, None, Some, unwrap_or, inl, inr, refl, sym, ap, ap₂, ◌∙◌, subst, arith, if◌then◌else◌, IsTrue}
use Rattle.std.specs.Bool.{⊤}
use Rattle.std.specs.List.{AllByRecursion, list_any, range_with_len}
use Rattle.std.proofs.lemmas.Bool.Decides.{nat_tests}
use Rattle.std.proofs.lemmas.Nat.{mul-le}
use Rattle.dim_expand.specs.declared.fault.Cause.{Cause}
use Rattle.dim_expand.specs.declared.fault.Cause.TheVariants.{Zero, TooLong, NoMark, IndexCount}
use Rattle.dim_expand.specs.Causes.{cause_at, dim_cause, index_cause, dim_limit, stated_index}
use Rattle.dim_expand.specs.Indexes.{index_of}
use Rattle.dim_expand.specs.Marks.{has_dimension, may_be_array, has_array_mark, indexed, is_list, is_list_name, is_marked}
use Rattle.dim_expand.specs.Unfolding.{groups_of, group_step, group_keys, is_dimension, moved_key, distance_of}
use Rattle.dim_expand.specs.Walks.{capped, exact, name_or, capped_index, capped_key, capped_keys, capped_step, group_of, groups, IsTyped}
use Rattle.dim_expand.proofs.Words.{index-word, index-some, indexed-word, indexed-name, name_or-name, array-name, unmarked}
use Rattle.pac_base.specs.Names.{IsWord, IsName, IsArrayName}
use Rattle.svd_model.specs.Counting.{told_count}
use Rattle.svd_model.specs.Facts.{IsElement, IsPlaced, IsUnfoldedElement, IsArrayOrPlain, IsArrayDim, IsBounded, IsIndexed, IsIndex, HasForm, is_dim}
use Rattle.svd_model.specs.Keys.{Key, rank, dim_count, dim_increment, dim_index, base_address, at_offset, bit_width}
use Rattle.svd_model.specs.Properties.{nearest}
use Rattle.svd_model.specs.Stating.{value_of, stated_dim, stated_increment, indexes_of}
use Rattle.svd_model.specs.Steps.{Step, Kind, peripheral, cluster, register, field, set, value}
use Rattle.svd_rows.specs.Forest.{Forest}
use Rattle.svd_rows.specs.Ranks.{IsRanked}
use Rattle.svd_values.specs.declared.index.DimIndex.{DimIndex}
use Rattle.svd_values.specs.declared.index.DimIndex.TheVariants.{Numbers, Letters, Words}

-- what is known of an element before it is unfolded
pub record IsFine (step : Step) (keys : List Key) : Type 0 where
  pub element : IsElement IsPlaced step keys
  pub typed : IsTyped step keys
  pub free : cause_at step.kind step.name keys ≡ None

-- ---- what the keys state

-- what holds of each key holds of the value that the keys state
stated-all : {A : Type 0} (one : Key → Option A) (P : A → Type 0) (Q : Key → Type 0) → ((key : Key) (a : A) → one key ≡ Some a → Q key → P a) → (keys : List Key) → AllByRecursion Q keys → (a : A) → value_of one keys ≡ Some a → P a
unfolding value_of
stated-all one P Q each [] all a e = absurd cc
stated-all {A = A} one P Q each (key ∷ keys) all a e = by (one key) refl e (stated-all one P Q each keys all.1 a)
  where
    by : (o : Option A) → one key ≡ o → nearest (o ∷ map one keys) ≡ Some a → (nearest (map one keys) ≡ Some a → P a) → P a
    by None is f rest = rest f
    by (Some b) is f rest = each key a (is ∙ f) all.0

-- the stated index list is one that a text gives
index-stated : (step : Step) (keys : List Key) → IsElement IsPlaced step keys → (index : DimIndex) → value_of stated_index keys ≡ Some index → IsIndex index
index-stated step keys element index e = stated-all stated_index IsIndex IsIndexed each keys element.indexed index e
  where
    each : (key : Key) (i : DimIndex) → stated_index key ≡ Some i → IsIndexed key → IsIndex i
    each (dim_index j) i is h = subst (λ (o : Option DimIndex). by o) is h
      where
        by : Option DimIndex → Type 0
        by None = ⊤
        by (Some x) = IsIndex x
    each _ i is h = absurd cc

-- no key of a dimension stands where none is stated
no-dims : (keys : List Key) → value_of stated_dim keys ≡ None → list_any is_dim keys ≡ false
unfolding value_of
no-dims [] e = refl
no-dims (dim_count n ∷ keys) e = absurd cc
no-dims (_ ∷ keys) e = no-dims keys e

some-dims : (keys : List Key) (d : ℕ) → value_of stated_dim keys ≡ Some d → list_any is_dim keys ≡ true
unfolding value_of
some-dims [] d e = absurd cc
some-dims (dim_count n ∷ keys) d e = refl
some-dims (_ ∷ keys) d e = some-dims keys d e

no-members : (keys : List Key) → list_any is_dim keys ≡ false → AllByRecursion IsArrayDim keys
no-members [] h = tt
no-members (dim_count n ∷ keys) h = absurd cc
no-members (_ ∷ keys) h = (tt, no-members keys h)

-- keys of a later rank than that of a dimension
later-members : (r : ℕ) (keys : List Key) → 2 ≤ r → AllByRecursion (λ later. r < rank later) keys → AllByRecursion IsArrayDim keys
unfolding rank
later-members r [] le h = tt
later-members r (dim_count n ∷ keys) le h = absurd (omega (arith, le, h.0))
later-members r (_ ∷ keys) le h = (tt, later-members r keys le h.1)

-- the one dimension of an array
members-fit : (keys : List Key) (d : ℕ) → IsRanked rank keys → value_of stated_dim keys ≡ Some d → 1 ≤ d → d ≤ 65536 → AllByRecursion IsArrayDim keys
unfolding value_of IsRanked rank
members-fit [] d ranked e least most = tt
members-fit (dim_count n ∷ keys) d ranked e least most =
    let same : d ≡ n = ap (λ o. unwrap_or o 0) (sym e) in
    (subst (λ m. (1 ≤ m) × (m ≤ 65536)) same (least, most), later-members 2 keys (omega arith) ranked.0)
members-fit (_ ∷ keys) d ranked e least most = (tt, members-fit keys d ranked.1 e least most)

-- ---- what no fault says

-- an element that states how many members it has
pub record IsDimmed (name : List ℕ) (keys : List Key) (d : ℕ) : Type 0 where
  pub least : 1 ≤ d
  pub most : d ≤ 65536
  pub mark : is_marked name ≡ true
  pub indexes : index_cause d (value_of stated_index keys) ≡ None

-- what is known where the dimension is stated or not
abbrev pub FreeBy : List ℕ → List Key → Option ℕ → Type 0
FreeBy name keys None = is_marked name ≡ false
FreeBy name keys (Some d) = IsDimmed name keys d

parts : (a b m : Bool) (d : ℕ) (o : Option Cause) → (if a then Some Zero else (if b then Some (TooLong d) else (if m then o else Some NoMark))) ≡ None → (a ≡ false) × (b ≡ false) × (m ≡ true) × (o ≡ None)
parts true b m d o e = absurd cc
parts false true m d o e = absurd cc
parts false false true d o e = (refl, refl, refl, e)
parts false false false d o e = absurd cc

pub free-by : (step : Step) (keys : List Key) → has_dimension step.kind ≡ true → cause_at step.kind step.name keys ≡ None → FreeBy step.name keys (value_of stated_dim keys)
unfolding cause_at dim_cause
free-by step keys may free =
    by (value_of stated_dim keys) (sym (ap (λ b. if b then dim_cause (is_marked step.name) (value_of stated_dim keys) (value_of stated_index keys) else None) may) ∙ free)
  where
    by : (o : Option ℕ) → dim_cause (is_marked step.name) o (value_of stated_index keys) ≡ None → FreeBy step.name keys o
    by None e = none (is_marked step.name) e
      where
        none : (m : Bool) → (if m then Some NoMark else None) ≡ None → m ≡ false
        none true f = absurd cc
        none false f = refl
    by (Some d) e =
        let p = parts (nat_eq d 0) (nat_lt dim_limit d) (is_marked step.name) d (index_cause d (value_of stated_index keys)) e in
        record { least = grind (arith, nat_tests, p.0); most = grind (arith, nat_tests, p.1); mark = p.2; indexes = p.3 }

-- a list may have a dimension, and its name has a mark
pub list-kind : (step : Step) → is_list step ≡ true → has_dimension step.kind ≡ true
unfolding is_list
list-kind step list = first (has_dimension step.kind) list
  where
    first : (b : Bool) → (b && is_list_name (may_be_array step.kind) step.name) ≡ true → b ≡ true
    first true e = refl
    first false e = absurd cc

pub list-marked : (step : Step) → is_list step ≡ true → is_marked step.name ≡ true
unfolding is_list is_list_name
list-marked step list = second (has_dimension step.kind) (is_marked step.name) list
  where
    second : (a b : Bool) → (a && (b && not (may_be_array step.kind && has_array_mark step.name))) ≡ true → b ≡ true
    second true true e = refl
    second true false e = absurd cc
    second false b e = absurd cc

-- letters reach as far as there are members
reaches : (d k first last : ℕ) → index_cause d (Some (Letters first last)) ≡ None → first ≤ last → last ≤ 122 → k < d → first + k ≤ last
reaches d k first last none rising short within = by (nat_eq (told_count (last - first + 1)) d) refl none
  where
    by : (b : Bool) → nat_eq (told_count (last - first + 1)) d ≡ b → (if b then None else Some (IndexCount d (told_count (last - first + 1)))) ≡ None → first + k ≤ last
    by false is e = absurd cc
    by true is e =
        let same : told_count (last - first + 1) ≡ d = grind (arith, nat_tests, is) in
        omega (arith, same, rising, within)

-- words reach as far as there are members
reaches-words : (d k : ℕ) (words : List (List ℕ)) → index_cause d (Some (Words words)) ≡ None → k < d → k < length words
reaches-words d k words none within = by (nat_eq (told_count (length words)) d) refl none
  where
    by : (b : Bool) → nat_eq (told_count (length words)) d ≡ b → (if b then None else Some (IndexCount d (told_count (length words)))) ≡ None → k < length words
    by false is e = absurd cc
    by true is e =
        let same : told_count (length words) ≡ d = grind (arith, nat_tests, is) in
        omega (arith, same, within)

short-letters : (first last : ℕ) → IsIndex (Letters first last) → last ≤ 122
short-letters first last h =
    elim h.1 as (λ _. last ≤ 122) [ inl u ↦ omega (arith, u.1) | inr u ↦ omega (arith, u.1) ]

-- ---- a list's groups are made exactly

index-agree : (o : Option DimIndex) (d k : ℕ) → ((index : DimIndex) → o ≡ Some index → IsIndex index) → index_cause d o ≡ None → k < d → capped_index o k ≡ index_of o k
index-agree None d k is none within = refl
index-agree (Some (Numbers first last)) d k is none within = refl
index-agree (Some (Letters first last)) d k is none within =
    let index = is (Letters first last) refl in
    let short = short-letters first last index in
    let fits = reaches d k first last none index.0 short within in
    ap (λ n. n ∷ []) (omega (arith, short, fits))
index-agree (Some (Words words)) d k is none within = refl

-- how far a member can stand behind the first
abbrev far : ℕ
far = 65535 * (2 ^ 64 - 1)

distance-far : (keys : List Key) (k : ℕ) → k ≤ 65535 → unwrap_or (value_of stated_increment keys) 0 < 2 ^ 64 → distance_of keys k ≤ far
distance-far keys k few small = mul-le k (unwrap_or (value_of stated_increment keys) 0) 65535 (2 ^ 64 - 1) few (omega (arith, small))

key-agree : (distance : ℕ) (key : Key) → distance ≤ far → IsBounded (2 ^ 64) key → capped_key distance key ≡ moved_key distance key
key-agree distance (base_address n) near b = let below : n < 2 ^ 64 = b in ap base_address (omega (arith, below, near))
key-agree distance (at_offset n) near b = let below : n < 2 ^ 64 = b in ap at_offset (omega (arith, below, near))
key-agree distance _ near b = refl

keys-agree : (distance : ℕ) (keys : List Key) → distance ≤ far → AllByRecursion (IsBounded (2 ^ 64)) keys → map (capped_key distance) (filter (λ key. not (is_dimension key)) keys) ≡ map (moved_key distance) (filter (λ key. not (is_dimension key)) keys)
keys-agree distance [] near all = refl
keys-agree distance (key ∷ keys) near all = by (not (is_dimension key)) (keys-agree distance keys near all.1)
  where
    by : (b : Bool) → map (capped_key distance) (filter (λ k. not (is_dimension k)) keys) ≡ map (moved_key distance) (filter (λ k. not (is_dimension k)) keys) → map (capped_key distance) (cond b (key ∷ filter (λ k. not (is_dimension k)) keys) (filter (λ k. not (is_dimension k)) keys)) ≡ map (moved_key distance) (cond b (key ∷ filter (λ k. not (is_dimension k)) keys) (filter (λ k. not (is_dimension k)) keys))
    by true rest = ap₂ (λ x r. x ∷ r) (key-agree distance key near all.0) rest
    by false rest = rest

-- the index of a member is a word
member-index : (step : Step) (keys : List Key) (d k : ℕ) → IsFine step keys → IsDimmed step.name keys d → k < d → IsWord (index_of (value_of stated_index keys) k)
member-index step keys d k fine dimmed within =
    index-word (value_of stated_index keys) k (index-stated step keys fine.element)
    (λ first last is.
    let index = index-stated step keys fine.element (Letters first last) is in
    reaches d k first last (sym (ap (index_cause d) is) ∙ dimmed.indexes) index.0 (short-letters first last index) within)

-- and the name with it is a name
member-name : (step : Step) (keys : List Key) (d k : ℕ) → IsFine step keys → is_list step ≡ true → IsDimmed step.name keys d → k < d → IsName (indexed step.name (index_of (value_of stated_index keys) k))
member-name step keys d k fine list dimmed within =
    indexed-name step.name (index_of (value_of stated_index keys) k) (fine.typed.named (list-kind step list)) dimmed.mark
    (member-index step keys d k fine dimmed within)
    (index-some (value_of stated_index keys) k (index-stated step keys fine.element)
    (λ words is. reaches-words d k words (sym (ap (index_cause d) is) ∙ dimmed.indexes) within))

-- a member of a list
member-agree : (step : Step) (keys : List Key) (below : Forest Step Key) (d k : ℕ) → IsFine step keys → is_list step ≡ true → IsDimmed step.name keys d → k < d → group_of capped step keys below (Some k) ≡ group_of exact step keys below (Some k)
unfolding capped_step group_step capped_keys group_keys
member-agree step keys below d k fine list dimmed within =
    let few : k ≤ 65535 = omega (arith, within, dimmed.most) in
    let names : name_or step.name (indexed step.name (capped_index (value_of stated_index keys) k)) ≡ indexed step.name (index_of (value_of stated_index keys) k) =
    ap (λ index. name_or step.name (indexed step.name index)) (index-agree (value_of stated_index keys) d k (index-stated step keys fine.element) dimmed.indexes within)
    ∙ name_or-name step.name (indexed step.name (index_of (value_of stated_index keys) k)) (member-name step keys d k fine list dimmed within) in
    let moved : map (capped_key (distance_of keys k)) (filter (λ key. not (is_dimension key)) keys) ≡ map (moved_key (distance_of keys k)) (filter (λ key. not (is_dimension key)) keys) =
    keys-agree (distance_of keys k) keys (distance-far keys k few fine.typed.small) fine.element.bounded in
    λ i. (record { kind = step.kind; name = names i; number = step.number }, record { keys = moved i; below = below })

itself-agrees : (step : Step) (keys : List Key) (below : Forest Step Key) → group_of capped step keys below None ≡ group_of exact step keys below None
unfolding capped_step group_step capped_keys group_keys
itself-agrees step keys below = refl

-- what holds of each number of a range
pub All-range : {P : ℕ → Type 0} (a n : ℕ) → ((k : ℕ) → k < a + n → P k) → AllByRecursion P (range_with_len a n)
All-range a zero each = tt
All-range a (suc n) each = (each a (omega arith), All-range (a + 1) n (λ k less. each k (omega (arith, less))))

map-all : {X Y : Type 0} (f g : X → Y) (xs : List X) → AllByRecursion (λ x. f x ≡ g x) xs → map f xs ≡ map g xs
map-all f g [] h = refl
map-all f g (x ∷ xs) h = ap₂ (λ y r. y ∷ r) h.0 (map-all f g xs h.1)

All-map : {X Y : Type 0} (P : Y → Type 0) (f : X → Y) (xs : List X) → AllByRecursion (λ x. P (f x)) xs → AllByRecursion P (map f xs)
All-map P f [] h = tt
All-map P f (x ∷ xs) h = (h.0, All-map P f xs h.1)

-- what holds of each group of an element holds of all
pub each-group : (P : Option ℕ → Type 0) (step : Step) (keys : List Key) → IsFine step keys → (is_list step ≡ false → P None) → ((d k : ℕ) → is_list step ≡ true → value_of stated_dim keys ≡ Some d → IsDimmed step.name keys d → k < d → P (Some k)) → AllByRecursion P (groups_of step keys)
unfolding groups_of
each-group P step keys fine itself member = by (is_list step) refl
  where
    listed : (o : Option ℕ) → value_of stated_dim keys ≡ o → FreeBy step.name keys o → is_list step ≡ true → AllByRecursion P (indexes_of (Some (unwrap_or o 0)))
    listed None is free list = tt
    listed (Some d) is free list =
        All-map P Some (range_with_len 0 d) (All-range 0 d (λ k less. member d k list is free (omega (arith, less))))

    by : (b : Bool) → is_list step ≡ b → AllByRecursion P (indexes_of (cond b (Some (unwrap_or (value_of stated_dim keys) 0)) None))
    by true list = listed (value_of stated_dim keys) refl (free-by step keys (list-kind step list) fine.free) list
    by false unlisted = (itself unlisted, tt)

-- the groups of an element are made exactly
pub groups-agree : (step : Step) (keys : List Key) (below : Forest Step Key) → IsFine step keys → groups capped step keys below ≡ groups exact step keys below
groups-agree step keys below fine =
    map-all (group_of capped step keys below) (group_of exact step keys below) (groups_of step keys)
    (each-group (λ group. group_of capped step keys below group ≡ group_of exact step keys below group) step keys fine
    (λ unlisted. itself-agrees step keys below)
    (λ d k list is dimmed within. member-agree step keys below d k fine list dimmed within))

-- ---- each group has the form of what is unfolded

wider : (keys : List Key) → AllByRecursion (IsBounded (2 ^ 64)) keys → AllByRecursion (IsBounded (2 ^ 80)) keys
wider [] h = tt
wider (key ∷ keys) h = (one key h.0, wider keys h.1)
  where
    one : (key : Key) → IsBounded (2 ^ 64) key → IsBounded (2 ^ 80) key
    one (base_address n) b = let below : n < 2 ^ 64 = b in omega (arith, below)
    one (at_offset n) b = let below : n < 2 ^ 64 = b in omega (arith, below)
    one (bit_width n) b = b
    one _ b = tt

moved-bounded : (distance : ℕ) (key : Key) → distance ≤ far → IsBounded (2 ^ 64) key → IsBounded (2 ^ 80) (moved_key distance key)
moved-bounded distance (base_address n) near b = let below : n < 2 ^ 64 = b in omega (arith, below, near)
moved-bounded distance (at_offset n) near b = let below : n < 2 ^ 64 = b in omega (arith, below, near)
moved-bounded distance (bit_width n) near b = b
moved-bounded distance _ near b = tt

-- the keys of a member: none of a dimension, and bounded
record IsMoved (keys : List Key) : Type 0 where
  dims : list_any is_dim keys ≡ false
  bounded : AllByRecursion (IsBounded (2 ^ 80)) keys

moved-key-dim : (distance : ℕ) (key : Key) → is_dimension key ≡ false → is_dim (moved_key distance key) ≡ false
moved-key-dim distance (dim_count n) e = absurd cc
moved-key-dim distance (base_address n) e = refl
moved-key-dim distance (at_offset n) e = refl
moved-key-dim distance _ e = refl

moved-keys : (distance : ℕ) (keys : List Key) → distance ≤ far → AllByRecursion (IsBounded (2 ^ 64)) keys → IsMoved (map (moved_key distance) (filter (λ key. not (is_dimension key)) keys))
moved-keys distance [] near all = record { dims = refl; bounded = tt }
moved-keys distance (key ∷ keys) near all = by (is_dimension key) refl (moved-keys distance keys near all.1)
  where
    others : List Key
    others = filter (λ k. not (is_dimension k)) keys

    by : (b : Bool) → is_dimension key ≡ b → IsMoved (map (moved_key distance) others) → IsMoved (map (moved_key distance) (cond (not b) (key ∷ others) others))
    by true is rest = rest
    by false is rest = record {
      dims = ap (λ b. b || list_any is_dim (map (moved_key distance) others)) (moved-key-dim distance key is) ∙ rest.dims;
      bounded = (moved-bounded distance key near all.0, rest.bounded);
    }

-- a field's offset stays
moved-placed : (distance : ℕ) (keys : List Key) → IsPlaced keys → IsPlaced (map (moved_key distance) (filter (λ key. not (is_dimension key)) keys))
moved-placed distance [] h = h
moved-placed distance (at_offset n ∷ keys) h = refl
moved-placed distance (dim_count n ∷ keys) h = moved-placed distance keys h
moved-placed distance (dim_increment n ∷ keys) h = moved-placed distance keys h
moved-placed distance (dim_index n ∷ keys) h = moved-placed distance keys h
moved-placed distance (base_address n ∷ keys) h = moved-placed distance keys h
moved-placed distance (_ ∷ keys) h = moved-placed distance keys h

-- the form of a field says that it has its offset
placed-field : (step : Step) (keys : List Key) → HasForm IsPlaced step keys → step.kind ≡ field → IsPlaced keys
placed-field step keys form is = second (subst (λ kind. HasForm IsPlaced (record { kind = kind; name = step.name; number = step.number }) keys) is form)
  where
    second : (step.number ≡ 0) × IsPlaced keys → IsPlaced keys
    second h = h.1

-- an element without a dimension, whose name is a word
plain-form : (kind : Kind) (name : List ℕ) (number : ℕ) (keys : List Key) → list_any is_dim keys ≡ false → IsWord name → (kind ≡ field → IsPlaced keys) → has_dimension kind ≡ true → IsArrayOrPlain (record { kind = kind; name = name; number = number }) keys
plain-form peripheral name number keys dims word placed may = (dims, word)
plain-form cluster name number keys dims word placed may = inr (dims, word)
plain-form register name number keys dims word placed may = inr (dims, word)
plain-form field name number keys dims word placed may = (inr (dims, word), placed refl)
plain-form set name number keys dims word placed may = absurd cc
plain-form value name number keys dims word placed may = absurd cc

-- a member of a list
member-form : (step : Step) (keys : List Key) (number d k : ℕ) → IsFine step keys → is_list step ≡ true → IsDimmed step.name keys d → k < d → IsUnfoldedElement (record { kind = step.kind; name = (group_step step keys (Some k)).name; number = number }) (group_keys keys (Some k))
unfolding group_step group_keys
member-form step keys number d k fine list dimmed within = record {
  form = plain-form step.kind (indexed step.name (index_of (value_of stated_index keys) k)) number moved facts.dims word (λ is. moved-placed (distance_of keys k) keys (placed-field step keys fine.element.form is)) may;
  members = no-members moved facts.dims;
  bounded = facts.bounded;
}
  where
    moved : List Key
    moved = map (moved_key (distance_of keys k)) (filter (λ key. not (is_dimension key)) keys)

    may : has_dimension step.kind ≡ true
    may = list-kind step list

    facts : IsMoved moved
    facts = moved-keys (distance_of keys k) keys (distance-far keys k (omega (arith, within, dimmed.most)) fine.typed.small) fine.element.bounded

    word : IsWord (indexed step.name (index_of (value_of stated_index keys) k))
    word =
        indexed-word step.name (index_of (value_of stated_index keys) k) (fine.typed.named may) dimmed.mark
        (member-index step keys d k fine dimmed within)

-- an element that is no list, where its dimension is stated or not
itself-by : (kind : Kind) (name : List ℕ) (number : ℕ) (keys : List Key) (o : Option ℕ) → value_of stated_dim keys ≡ o → FreeBy name keys o → is_list (record { kind = kind; name = name; number = number }) ≡ false → has_dimension kind ≡ true → IsName name → (kind ≡ field → IsPlaced keys) → IsArrayOrPlain (record { kind = kind; name = name; number = number }) keys
unfolding is_list is_list_name
itself-by kind name number keys None is free unlisted may named placed =
    plain-form kind name number keys (no-dims keys is) (unmarked name free) placed may
itself-by kind name number keys (Some d) is free unlisted may named placed = by kind unlisted may placed
  where
    array : (b : Bool) → has_array_mark name ≡ b → (is_marked name && not (true && b)) ≡ false → IsTrue (list_any is_dim keys) × IsArrayName name
    array true e f = (true_is (list_any is_dim keys) (some-dims keys d is), array-name name named free.mark e)
      where
        true_is : (b : Bool) → b ≡ true → IsTrue b
        true_is true e = refl
        true_is false e = absurd cc
    array false e f = absurd (let g : is_marked name ≡ false = and_true (is_marked name) f in let h : true ≡ false = sym free.mark ∙ g in cc)
      where
        and_true : (b : Bool) → (b && true) ≡ false → b ≡ false
        and_true true e = absurd cc
        and_true false e = refl

    no_array : (is_marked name && true) ≡ false → ⊥
    no_array f = let g : (true && true) ≡ false = ap (λ b. b && true) (sym free.mark) ∙ f in absurd cc

    by : (kind : Kind) → (has_dimension kind && (is_marked name && not (may_be_array kind && has_array_mark name))) ≡ false → has_dimension kind ≡ true → (kind ≡ field → IsPlaced keys) → IsArrayOrPlain (record { kind = kind; name = name; number = number }) keys
    by peripheral f m p = absurd (no_array f)
    by cluster f m p = inl (array (has_array_mark name) refl f)
    by register f m p = inl (array (has_array_mark name) refl f)
    by field f m p = (inl (array (has_array_mark name) refl f), p refl)
    by set f m p = absurd cc
    by value f m p = absurd cc

plain-kind : (kind : Kind) (name : List ℕ) (number other : ℕ) (keys : List Key) → has_dimension kind ≡ false → HasForm IsPlaced (record { kind = kind; name = name; number = other }) keys → IsArrayOrPlain (record { kind = kind; name = name; number = number }) keys
plain-kind peripheral name number other keys may h = absurd cc
plain-kind cluster name number other keys may h = absurd cc
plain-kind register name number other keys may h = absurd cc
plain-kind field name number other keys may h = absurd cc
plain-kind set name number other keys may h = tt
plain-kind value name number other keys may h = h

itself-form : (step : Step) (keys : List Key) (number : ℕ) → IsFine step keys → is_list step ≡ false → IsUnfoldedElement (record { kind = step.kind; name = step.name; number = number }) keys
unfolding is_list
itself-form step keys number fine unlisted = by (has_dimension step.kind) refl
  where
    members : (o : Option ℕ) → value_of stated_dim keys ≡ o → FreeBy step.name keys o → AllByRecursion IsArrayDim keys
    members None is free = no-members keys (no-dims keys is)
    members (Some d) is free = members-fit keys d fine.typed.ranked is free.least free.most

    by : (b : Bool) → has_dimension step.kind ≡ b → IsUnfoldedElement (record { kind = step.kind; name = step.name; number = number }) keys
    by true may =
        let free = free-by step keys may fine.free in record {
          form = itself-by step.kind step.name number keys (value_of stated_dim keys) refl free unlisted may (fine.typed.named may) (placed-field step keys fine.element.form);
          members = members (value_of stated_dim keys) refl free;
          bounded = wider keys fine.element.bounded;
        }
    by false may = record {
      form = plain-kind step.kind step.name number step.number keys may fine.element.form;
      members = no-members keys (no-dims keys (fine.typed.plain may));
      bounded = wider keys fine.element.bounded;
    }

-- each group of an element, whatever its number
pub groups-form : (step : Step) (keys : List Key) → IsFine step keys → AllByRecursion (λ group. (number : ℕ) → IsUnfoldedElement (record { kind = step.kind; name = (group_step step keys group).name; number = number }) (group_keys keys group)) (groups_of step keys)
unfolding group_step group_keys
groups-form step keys fine =
    each-group (λ group. (number : ℕ) → IsUnfoldedElement (record { kind = step.kind; name = (group_step step keys group).name; number = number }) (group_keys keys group)) step keys fine
    (λ unlisted number. itself-form step keys number fine unlisted)
    (λ d k list is dimmed within number. member-form step keys number d k fine list dimmed within)
