-- The names of children and of fields.
use Rattle.std.proofs.Common.{◌≡◌, ℕ, suc, ◌+◌, ◌-◌, ◌<◌, ◌≤◌, ◌^◌, Bool, true, false, cond, not, ◌||◌, List, [], ◌∷◌, ◌++◌, map, find, Some, None, length, refl, sym, ap, ◌∙◌, arith, bytes_eq, if◌then◌else◌, nat_le, nat_lt, subst}
use Rattle.std.specs.Bool.{⊤}
use Rattle.std.specs.List.{AllByRecursion, list_any}
use Rattle.std.proofs.lemmas.Bool.{or_parts, not-true, false≢true}
use Rattle.frag_tree.specs.declared.access.Access.{Access}
use Rattle.frag_tree.specs.declared.block.StructField.{StructField}
use Rattle.frag_sem.proofs.Lists.{both_true, turned}
use Rattle.frag_sem.specs.Modules.{are_distinct}
use Rattle.block_form.specs.declared.child.Child.{Child}
use Rattle.block_form.specs.Children.{child_end, field_of}
use Rattle.block_form.specs.Fields.{becomes_field, fields_from, taken_from}
use Rattle.block_form.specs.Forms.{accessors_for, is_named, names_of, taken_of}
use Rattle.block_form.specs.Gaps.{IsNoGap, NoGaps, gap_field, gap_name}
use Rattle.block_form.specs.Laws.{HaveNames, NamesDiffer}
use Rattle.block_form.specs.Order.{by_offset, ordered_by, put_in}
use Rattle.block_form.proofs.GapNames.{gaps_differ}
use Rattle.block_form.proofs.Ordering.{all_put, all_ordered}
use Rattle.block_form.proofs.Taking.{all_taken, taken_have}

-- ---- distinct names

-- none of them has the name
abbrev pub Without : List ℕ → List Child → Type 0
Without name children = AllByRecursion (λ child. bytes_eq name child.name ≡ false) children

unfoldable pub AreApart : List Child → Type 0
AreApart [] = ⊤
AreApart (child ∷ others) = Without child.name others × AreApart others

without : (name : List ℕ) (children : List Child) → is_named name children ≡ false → Without name children
without name [] none = tt
without name (child ∷ others) none = let parts = or_parts (bytes_eq name child.name) (is_named name others) none in (parts.0, without name others parts.1)

pub apart : (children : List Child) → HaveNames children → AreApart children
unfolding are_distinct AreApart
apart [] distinct = tt
apart (child ∷ others) distinct =
    let parts = both_true (not (is_named child.name others)) (are_distinct bytes_eq (names_of others)) distinct in
    (without child.name others (not-true (is_named child.name others) parts.0), apart others parts.1)

-- in another order, and those that become fields
apart_put : (child : Child) (others : List Child) → Without child.name others → AreApart others → AreApart (put_in (λ (one : Child). one.offset) child others)
unfolding put_in AreApart
apart_put child [] here more = (tt, tt)
apart_put child (first ∷ others) here more = by (nat_le child.offset first.offset) (apart_put child others here.1 more.1)
  where
    by : (b : Bool) → AreApart (put_in (λ (one : Child). one.offset) child others) → AreApart (cond b (child ∷ (first ∷ others)) (first ∷ put_in (λ (one : Child). one.offset) child others))
    by true later = (here, more)
    by false later = (all_put (λ other. bytes_eq first.name other.name ≡ false) (λ (one : Child). one.offset) child others (turned child.name first.name here.0) more.0, later)

apart_ordered : (children : List Child) → AreApart children → AreApart (by_offset children)
unfolding ordered_by AreApart
apart_ordered [] are = tt
apart_ordered (child ∷ others) are =
    apart_put child (by_offset others) (all_ordered (λ other. bytes_eq child.name other.name ≡ false) (λ (one : Child). one.offset) others are.0) (apart_ordered others are.1)

apart_taken : (end : ℕ) (children : List Child) → AreApart children → AreApart (taken_from end children)
unfolding taken_from AreApart
apart_taken end [] are = tt
apart_taken end (child ∷ others) are = by (becomes_field end child) (apart_taken (child_end child) others are.1) (apart_taken end others are.1)
  where
    by : (b : Bool) → AreApart (taken_from (child_end child) others) → AreApart (taken_from end others) → AreApart (if b then child ∷ taken_from (child_end child) others else taken_from end others)
    by true with passed = (all_taken (λ other. bytes_eq child.name other.name ≡ false) (child_end child) others are.0, with)
    by false with passed = passed

-- ---- a child among others

-- only it has its name
abbrev pub Owns : Child → List Child → Type 0
Owns child others = AllByRecursion (λ other. bytes_eq child.name other.name ≡ true → other ≡ child) others

pub find_own : (child : Child) (others : List Child) → Owns child others → find (λ other. bytes_eq child.name other.name) others ≡ cond (is_named child.name others) (Some child) None
find_own child [] own = refl
find_own child (other ∷ others) own = by (bytes_eq child.name other.name) own.0 (find_own child others own.1)
  where
    by : (b : Bool) → (b ≡ true → other ≡ child) → find (λ other. bytes_eq child.name other.name) others ≡ cond (is_named child.name others) (Some child) None
        → cond b (Some other) (find (λ other. bytes_eq child.name other.name) others) ≡ cond (b || is_named child.name others) (Some child) None
    by true same more = ap Some (same refl)
    by false same more = more

-- what all have, it has where it is one of them
pub all_found : (P : Child → Type 0) (child : Child) (others : List Child) → Owns child others → is_named child.name others ≡ true → AllByRecursion P others → P child
all_found P child [] own there all = absurd (false≢true there)
all_found P child (other ∷ others) own there all = by (bytes_eq child.name other.name) own.0 there (λ h. all_found P child others own.1 h all.1)
  where
    by : (b : Bool) → (b ≡ true → other ≡ child) → (b || is_named child.name others) ≡ true → (is_named child.name others ≡ true → P child) → P child
    by true same h more = subst P (same refl) all.0
    by false same h more = more h

own_here : (child : Child) (others : List Child) → Without child.name others → Owns child others
own_here child [] none = tt
own_here child (other ∷ others) none = (λ same. absurd (false≢true (sym none.0 ∙ same)), own_here child others none.1)

own_more : (front : Child) (all others : List Child) → Without front.name others → AllByRecursion (λ child. Owns child all) others → AllByRecursion (λ child. Owns child (front ∷ all)) others
own_more front all [] none own = tt
own_more front all (other ∷ others) none own = ((λ same. absurd (false≢true (sym (turned front.name other.name none.0) ∙ same)), own.0), own_more front all others none.1 own.1)

pub owns : (children : List Child) → AreApart children → AllByRecursion (λ child. Owns child children) children
unfolding AreApart
owns [] are = tt
owns (child ∷ others) are = ((λ same. refl, own_here child others are.0), own_more child others others are.0 (owns others are.1))

-- ---- how many there are

length_put : (child : Child) (others : List Child) → length (put_in (λ (one : Child). one.offset) child others) ≡ suc (length others)
unfolding put_in
length_put child [] = refl
length_put child (first ∷ others) = by (nat_le child.offset first.offset) (length_put child others)
  where
    by : (b : Bool) → length (put_in (λ (one : Child). one.offset) child others) ≡ suc (length others) → length (cond b (child ∷ (first ∷ others)) (first ∷ put_in (λ (one : Child). one.offset) child others)) ≡ suc (suc (length others))
    by true h = refl
    by false h = ap suc h

length_ordered : (children : List Child) → length (by_offset children) ≡ length children
unfolding ordered_by
length_ordered [] = refl
length_ordered (child ∷ others) = length_put child (by_offset others) ∙ ap suc (length_ordered others)

length_taken : (end : ℕ) (children : List Child) → length (taken_from end children) ≤ length children
unfolding taken_from
length_taken end [] = omega arith
length_taken end (child ∷ others) = by (becomes_field end child) (length_taken (child_end child) others) (length_taken end others)
  where
    by : (b : Bool) → length (taken_from (child_end child) others) ≤ length others → length (taken_from end others) ≤ length others → length (if b then child ∷ taken_from (child_end child) others else taken_from end others) ≤ suc (length others)
    by true with passed = omega arith
    by false with passed = omega arith

-- ---- the names of fields

abbrev field_names : List StructField → List (List ℕ)
field_names fields = map (λ (field : StructField). field.name) fields

either_not : (a b : Bool) → a ≡ false → b ≡ false → (a || b) ≡ false
either_not a b p q = rw (p, q) refl

-- none has a name that is no gap's and no child's
no_child : (name : List ℕ) (end gaps : ℕ) (taken : List Child) → IsNoGap name → Without name taken → list_any (bytes_eq name) (field_names (fields_from end gaps taken)) ≡ false
unfolding fields_from
no_child name end gaps [] no_gap none = refl
no_child name end gaps (child ∷ others) no_gap none = by (nat_lt end child.offset) (λ n. no_child name (child_end child) n others no_gap none.1)
  where
    by : (b : Bool) → ((n : ℕ) → list_any (bytes_eq name) (field_names (fields_from (child_end child) n others)) ≡ false)
        → list_any (bytes_eq name) (field_names ((if b then gap_field gaps (child.offset - end) ∷ [] else []) ++ (field_of child ∷ fields_from (child_end child) (if b then gaps + 1 else gaps) others))) ≡ false
    by true more = rw (no_gap gaps, none.0) (more (gaps + 1))
    by false more = rw none.0 (more gaps)

-- none has the name of an earlier gap
no_earlier : (number end gaps : ℕ) (taken : List Child) → number < gaps → gaps + length taken ≤ 2 ^ 64 → NoGaps taken → list_any (bytes_eq (gap_name number)) (field_names (fields_from end gaps taken)) ≡ false
unfolding fields_from
no_earlier number end gaps [] less within no_gaps = refl
no_earlier number end gaps (child ∷ others) less within no_gaps =
    by (nat_lt end child.offset) (turned child.name (gap_name number) (no_gaps.0 number)) (gaps_differ number gaps less (omega arith))
    (no_earlier number (child_end child) (gaps + 1) others (omega arith) (omega arith) no_gaps.1) (no_earlier number (child_end child) gaps others less (omega arith) no_gaps.1)
  where
    by : (b : Bool) → bytes_eq (gap_name number) child.name ≡ false → bytes_eq (gap_name number) (gap_name gaps) ≡ false
        → list_any (bytes_eq (gap_name number)) (field_names (fields_from (child_end child) (gaps + 1) others)) ≡ false
        → list_any (bytes_eq (gap_name number)) (field_names (fields_from (child_end child) gaps others)) ≡ false
        → list_any (bytes_eq (gap_name number)) (field_names ((if b then gap_field gaps (child.offset - end) ∷ [] else []) ++ (field_of child ∷ fields_from (child_end child) (if b then gaps + 1 else gaps) others))) ≡ false
    by true other gap more same = rw (gap, other) more
    by false other gap more same = rw other same

fields_differ : (end gaps : ℕ) (taken : List Child) → gaps + length taken < 2 ^ 64 → AreApart taken → NoGaps taken → are_distinct bytes_eq (field_names (fields_from end gaps taken)) ≡ true
unfolding fields_from are_distinct AreApart
fields_differ end gaps [] within are no_gaps = refl
fields_differ end gaps (child ∷ others) within are no_gaps =
    by (nat_lt end child.offset)
    (fields_differ (child_end child) (gaps + 1) others (omega arith) are.1 no_gaps.1) (fields_differ (child_end child) gaps others (omega arith) are.1 no_gaps.1)
    (no_child child.name (child_end child) (gaps + 1) others no_gaps.0 are.0) (no_child child.name (child_end child) gaps others no_gaps.0 are.0)
    (either_not (bytes_eq (gap_name gaps) child.name) (list_any (bytes_eq (gap_name gaps)) (field_names (fields_from (child_end child) (gaps + 1) others))) (turned child.name (gap_name gaps) (no_gaps.0 gaps)) (no_earlier gaps (child_end child) (gaps + 1) others (omega arith) (omega arith) no_gaps.1))
  where
    by : (b : Bool)
        → are_distinct bytes_eq (field_names (fields_from (child_end child) (gaps + 1) others)) ≡ true
        → are_distinct bytes_eq (field_names (fields_from (child_end child) gaps others)) ≡ true
        → list_any (bytes_eq child.name) (field_names (fields_from (child_end child) (gaps + 1) others)) ≡ false
        → list_any (bytes_eq child.name) (field_names (fields_from (child_end child) gaps others)) ≡ false
        → list_any (bytes_eq (gap_name gaps)) (child.name ∷ field_names (fields_from (child_end child) (gaps + 1) others)) ≡ false
        → are_distinct bytes_eq (field_names ((if b then gap_field gaps (child.offset - end) ∷ [] else []) ++ (field_of child ∷ fields_from (child_end child) (if b then gaps + 1 else gaps) others))) ≡ true
    by true more same here there gap = rw (gap, here) more
    by false more same here there gap = rw there same

accessor_names : (taken children : List Child) → map (λ (access : Access). access.name) (accessors_for taken children) ≡ names_of children
accessor_names taken [] = refl
accessor_names taken (child ∷ others) = ap (λ l. child.name ∷ l) (accessor_names taken others)

pub names_differ : NamesDiffer
names_differ children within distinct no_gaps = (
  fields_differ 0 0 (taken_of children)
      (let long = length_ordered children in let few = length_taken 0 (by_offset children) in omega arith)
      (apart_taken 0 (by_offset children) (apart_ordered children (apart children distinct)))
      (taken_have (λ child. IsNoGap child.name) children no_gaps),
  ap (are_distinct bytes_eq) (accessor_names (taken_of children) children) ∙ distinct,
)
