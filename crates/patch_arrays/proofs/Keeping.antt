-- An array keeps what is said of each element of a description, and that siblings are distinct.
use Rattle.std.proofs.Common.{◌≡◌, ℕ, ◌^◌, Bool, true, false, cond, not, ◌&&◌, ◌||◌, nat_eq, nat_lt, List, [], ◌∷◌, ◌++◌, map, filter, refl, sym, ap, ap₂, ◌∙◌, subst}
use Rattle.std.specs.Cmp.Lexicographic.{bytes_decides}
use Rattle.std.specs.List.{AllByRecursion, IsDistinct as AreDistinct, list_any}
use Rattle.std.specs.Str.{bytes_eq}
use Rattle.patch_edits.proofs.Keeping.{Keeps}
use Rattle.patch_model.specs.Acts.{PatternItems}
use Rattle.patch_sem.specs.Copying.{renamed_step}
use Rattle.patch_sem.specs.Selecting.{is_named, is_patched, selects}
use Rattle.patch_arrays.proofs.Each.{each_append, each_both, each_exchanged, each_kept, each_passes, each_so, each_from, each_map}
use Rattle.patch_arrays.proofs.Elements.{siblings-elements, step_in}
use Rattle.patch_arrays.proofs.Fewer.{gave}
use Rattle.patch_arrays.proofs.Ordering.{all_ordered}
use Rattle.patch_arrays.specs.Arranging.{Element, dimmed, arranged, array_of, arrayed_below, elements, exact, is_member, is_taken, offset_of, put_key, with_array}
use Rattle.patch_arrays.specs.Siblings.{clashes, unlike_kinds}
use Rattle.svd_model.specs.Facts.{HasForm, IsBounded, IsElement, IsIndexed, IsPlacedOrDerived, is_derived, is_offset}
use Rattle.svd_model.specs.Keys.{Key, at_offset, derived_from, dim_count, dim_increment, rank}
use Rattle.svd_model.specs.Steps.{Kind, Step, peripheral, cluster, register, field, set, value, same_key}
use Rattle.svd_rows.proofs.Siblings.{Every-each, Every-siblings, IsDistinct-each, IsDistinct-siblings}
use Rattle.svd_rows.specs.Elements.{Every, IsDistinct}
use Rattle.svd_rows.specs.Forest.{siblings}
use Rattle.svd_rows.specs.RowEdits.{added, exchanged, some_pass}

-- ---- the keys of the array

each_added : {A : Type 0} (P : A → Type 0) (test : A → Bool) (new xs : List A) → AllByRecursion P new → AllByRecursion P xs → AllByRecursion P (added test new xs)
unfolding added
each_added P test new [] h k = tt
each_added P test new (x ∷ xs) h k = cases (some_pass test xs) (test x) (each_added P test new xs h k.1)
  where
    cases : (a b : Bool) → AllByRecursion P (added test new xs) → AllByRecursion P (cond a (x ∷ added test new xs) (cond b (x ∷ (new ++ xs)) (x ∷ xs)))
    cases true b more = (k.0, more)
    cases false true more = (k.0, each_append P new xs h k.1)
    cases false false more = k

put-each : (P : Key → Type 0) (key : Key) (keys : List Key) → P key → AllByRecursion P keys → AllByRecursion P (put_key key keys)
unfolding put_key
put-each P key keys h k = cases (some_pass (λ other. nat_lt (rank other) (rank key)) kept) (each_kept P (λ other. not (nat_eq (rank other) (rank key))) keys k)
  where
    kept : List Key
    kept = filter (λ other. not (nat_eq (rank other) (rank key))) keys

    cases : (b : Bool) → AllByRecursion P kept → AllByRecursion P (cond b (added (λ other. nat_lt (rank other) (rank key)) (key ∷ []) kept) (key ∷ kept))
    cases true all = each_added P (λ other. nat_lt (rank other) (rank key)) (key ∷ []) kept (h, tt) all
    cases false all = (h, all)

any_append : {A : Type 0} (p : A → Bool) (xs ys : List A) → list_any p ys ≡ true → list_any p (xs ++ ys) ≡ true
any_append p [] ys h = h
any_append p (x ∷ xs) ys h = or_right (p x) (list_any p (xs ++ ys)) (any_append p xs ys h)
  where
    or_right : (a b : Bool) → b ≡ true → (a || b) ≡ true
    or_right true b e = refl
    or_right false b e = e

any_added : {A : Type 0} (p test : A → Bool) (new xs : List A) → list_any p xs ≡ true → list_any p (added test new xs) ≡ true
unfolding added
any_added p test new [] h = h
any_added p test new (x ∷ xs) h = cases (some_pass test xs) (test x) (p x) refl h (any_added p test new xs)
  where
    first : (c : Bool) (rest : List _) → p x ≡ c → (c ≡ false → list_any p rest ≡ true) → list_any p (x ∷ rest) ≡ true
    first true rest e more = ap (λ (b : Bool). b || list_any p rest) e
    first false rest e more = ap (λ (b : Bool). b || list_any p rest) e ∙ more refl

    behind : (c : Bool) → c ≡ false → (c || list_any p xs) ≡ true → list_any p xs ≡ true
    behind true e h = cc
    behind false e h = h

    cases : (a b c : Bool) → p x ≡ c → (p x || list_any p xs) ≡ true → (list_any p xs ≡ true → list_any p (added test new xs) ≡ true) → list_any p (cond a (x ∷ added test new xs) (cond b (x ∷ (new ++ xs)) (x ∷ xs))) ≡ true
    cases true b c is h more = first c (added test new xs) is (λ e. more (behind (p x) (is ∙ e) h))
    cases false true c is h more = first c (new ++ xs) is (λ e. any_append p new xs (behind (p x) (is ∙ e) h))
    cases false false c is h more = h

any_kept : {A : Type 0} (p q : A → Bool) → ((x : A) → p x ≡ true → q x ≡ true) → (xs : List A) → list_any p xs ≡ true → list_any p (filter q xs) ≡ true
any_kept p q so [] h = h
any_kept p q so (x ∷ xs) h = cases (p x) (q x) refl refl h (any_kept p q so xs)
  where
    cases : (a b : Bool) → p x ≡ a → q x ≡ b → (a || list_any p xs) ≡ true → (list_any p xs ≡ true → list_any p (filter q xs) ≡ true) → list_any p (cond b (x ∷ filter q xs) (filter q xs)) ≡ true
    cases true true is kept h more = ap (λ (c : Bool). c || list_any p (filter q xs)) is
    cases true false is kept h more = let clash = sym (so x is) ∙ kept in cc
    cases false true is kept h more = ap (λ (c : Bool). c || list_any p (filter q xs)) is ∙ more h
    cases false false is kept h more = more h

places : Key → Bool
places key = is_offset key || is_derived key

-- a key that neither is nor takes the place of an offset or a source leaves it
put-placed : (key : Key) (keys : List Key) → ((other : Key) → places other ≡ true → not (nat_eq (rank other) (rank key)) ≡ true) → list_any places keys ≡ true → list_any places (put_key key keys) ≡ true
unfolding put_key
put-placed key keys apart h = cases (some_pass (λ other. nat_lt (rank other) (rank key)) kept) (any_kept places (λ other. not (nat_eq (rank other) (rank key))) apart keys h)
  where
    kept : List Key
    kept = filter (λ other. not (nat_eq (rank other) (rank key))) keys

    cases : (b : Bool) → list_any places kept ≡ true → list_any places (cond b (added (λ other. nat_lt (rank other) (rank key)) (key ∷ []) kept) (key ∷ kept)) ≡ true
    cases true all = any_added places (λ other. nat_lt (rank other) (rank key)) (key ∷ []) kept all
    cases false all = any_append places (key ∷ []) kept all

count-apart : (n : ℕ) (other : Key) → places other ≡ true → not (nat_eq (rank other) (rank (dim_count n))) ≡ true
unfolding rank places
count-apart n (at_offset m) e = refl
count-apart n (derived_from path) e = refl
count-apart n _ e = cc

increment-apart : (n : ℕ) (other : Key) → places other ≡ true → not (nat_eq (rank other) (rank (dim_increment n))) ≡ true
unfolding rank places
increment-apart n (at_offset m) e = refl
increment-apart n (derived_from path) e = refl
increment-apart n _ e = cc

form-array : (name : List ℕ) (step : Step) (old new : List Key) → (IsPlacedOrDerived old → IsPlacedOrDerived new) → is_patched step.kind ≡ true → HasForm IsPlacedOrDerived step old → HasForm IsPlacedOrDerived (renamed_step name step) new
form-array name step old new placed patched h = cases step.kind patched h
  where
    cases : (kind : Kind) → is_patched kind ≡ true → HasForm IsPlacedOrDerived (record { kind = kind; name = step.name; number = step.number }) old → HasForm IsPlacedOrDerived (record { kind = kind; name = name; number = 0 }) new
    cases peripheral p h = refl
    cases cluster p h = refl
    cases register p h = refl
    cases field p h = (refl, placed h.1)
    cases set p h = tt
    cases value p h = cc

element-array : (name : List ℕ) (step : Step) (count by : ℕ) (keys : List Key) → is_patched step.kind ≡ true → IsElement IsPlacedOrDerived step keys → IsElement IsPlacedOrDerived (renamed_step name step) (dimmed count by keys)
unfolding places
element-array name step count by keys patched h = record {
  form = form-array name step keys (dimmed count by keys) (λ placed. put-placed (dim_increment by) (put_key (dim_count count) keys) (increment-apart by) (put-placed (dim_count count) keys (count-apart count) placed)) patched h.form;
  bounded = put-each (IsBounded (2 ^ 64)) (dim_increment by) (put_key (dim_count count) keys) tt (put-each (IsBounded (2 ^ 64)) (dim_count count) keys tt h.bounded);
  indexed = put-each IsIndexed (dim_increment by) (put_key (dim_count count) keys) tt (put-each IsIndexed (dim_count count) keys tt h.indexed);
}

-- ---- members are known to patches

member-patched : (pattern : PatternItems) (e : Element) → is_member pattern e ≡ true → is_patched e.0.kind ≡ true
unfolding selects
member-patched pattern e is = front (is_patched e.0.kind) _ _ is
  where
    front : (a b c : Bool) → ((a && b) && c) ≡ true → a ≡ true
    front true b c h = refl
    front false b c h = cc

-- what holds of all children holds of the members in their order, and each is one
pub order-each : (P : Element → Type 0) (pattern : PatternItems) (all : List Element) → AllByRecursion P all → AllByRecursion (λ e. P e × (is_member pattern e ≡ true)) (arranged pattern all)
order-each P pattern all h =
    all_ordered (λ e. P e × (is_member pattern e ≡ true)) offset_of (filter (is_member pattern) all)
    (each_both P (λ e. is_member pattern e ≡ true) (λ e. P e × (is_member pattern e ≡ true)) (λ e p m. (p, m)) (filter (is_member pattern) all) (each_kept P (is_member pattern) all h) (each_passes (is_member pattern) all))

-- ---- each element

abbrev IsFine : Element → Type 0
IsFine e = IsElement IsPlacedOrDerived e.0 e.1.keys × Every (IsElement IsPlacedOrDerived) e.1.below

array-fine : (pattern : PatternItems) (name : List ℕ) (some : List Element) → AllByRecursion (λ e. IsFine e × (is_member pattern e ≡ true)) some → AllByRecursion IsFine (array_of exact name some)
array-fine pattern name [] h = tt
array-fine pattern name (first ∷ others) h = ((element-array name first.0 _ _ first.1.keys (member-patched pattern first h.0.1) h.0.0.0, h.0.0.1), tt)

pub array-every : (line : ℕ) (pattern : PatternItems) (name : List ℕ) → Keeps (Every (IsElement IsPlacedOrDerived)) (arrayed_below exact line pattern name)
array-every line pattern name kind f new e h =
    subst (Every (IsElement IsPlacedOrDerived)) (gave line pattern name kind f new e).1
    (Every-siblings (IsElement IsPlacedOrDerived) (with_array exact pattern name (elements f))
    (each_exchanged IsFine (is_member pattern) (array_of exact name (arranged pattern (elements f))) (elements f) (array-fine pattern name (arranged pattern (elements f)) (order-each IsFine pattern (elements f) fine)) fine))
  where
    fine : AllByRecursion IsFine (elements f)
    fine = Every-each (IsElement IsPlacedOrDerived) (elements f) (subst (Every (IsElement IsPlacedOrDerived)) (sym (siblings-elements f)) h)

-- ---- siblings stay distinct

abbrev Apart : Step → Element → Type 0
Apart step e = (clashes step e.0 ≡ false) × (clashes e.0 step ≡ false)

is_not : (b : Bool) → not b ≡ true → b ≡ false
is_not true e = cc
is_not false e = refl

apart-kept : (step : Step) (q : Element → Bool) (all : List Element) → AllByRecursion (λ other. clashes step other ≡ false) (map step_in all) → AllByRecursion (λ other. clashes step other ≡ false) (map step_in (filter q all))
apart-kept step q all h =
    each_from (λ other. clashes step other ≡ false) step_in (filter q all)
    (each_kept (λ e. clashes step e.0 ≡ false) q all (each_map (λ other. clashes step other ≡ false) step_in all h))

distinct-kept : (q : Element → Bool) (all : List Element) → AreDistinct clashes (map step_in all) → AreDistinct clashes (map step_in (filter q all))
unfolding AreDistinct
distinct-kept q [] h = tt
distinct-kept q (e ∷ all) h = cases (q e) (distinct-kept q all h.1)
  where
    cases : (b : Bool) → AreDistinct clashes (map step_in (filter q all)) → AreDistinct clashes (map step_in (cond b (e ∷ filter q all) (filter q all)))
    cases true more = (apart-kept e.0 q all h.0, more)
    cases false more = more

left-apart : (test : Element → Bool) (new : Element) (all : List Element) → AllByRecursion (λ e. test e ≡ false → Apart new.0 e) all → AllByRecursion (λ other. clashes new.0 other ≡ false) (map step_in (filter (λ e. not (test e)) all))
left-apart test new all apart =
    each_from (λ other. clashes new.0 other ≡ false) step_in (filter (λ e. not (test e)) all)
    (each_both (λ e. test e ≡ false → Apart new.0 e) (λ e. not (test e) ≡ true) (λ e. clashes new.0 e.0 ≡ false) (λ e so left. (so (is_not (test e) left)).0) (filter (λ e. not (test e)) all)
    (each_kept (λ e. test e ≡ false → Apart new.0 e) (λ e. not (test e)) all apart) (each_passes (λ e. not (test e)) all))

distinct-exchanged : (test : Element → Bool) (new : Element) (all : List Element) → AllByRecursion (λ e. test e ≡ false → Apart new.0 e) all → AreDistinct clashes (map step_in all) → AreDistinct clashes (map step_in (exchanged test (new ∷ []) all))
unfolding AreDistinct exchanged
distinct-exchanged test new [] apart h = tt
distinct-exchanged test new (e ∷ all) apart h = cases (test e) refl (distinct-exchanged test new all apart.1 h.1)
  where
    cases : (b : Bool) → test e ≡ b → AreDistinct clashes (map step_in (exchanged test (new ∷ []) all)) → AreDistinct clashes (map step_in (cond b (new ∷ filter (λ x. not (test x)) all) (e ∷ exchanged test (new ∷ []) all)))
    cases true is more = (left-apart test new all apart.1, distinct-kept (λ x. not (test x)) all h.1)
    cases false is more = (
      each_from (λ other. clashes e.0 other ≡ false) step_in (exchanged test (new ∷ []) all)
          (each_exchanged (λ x. clashes e.0 x.0 ≡ false) test (new ∷ []) all ((apart.0 is).1, tt) (each_map (λ other. clashes e.0 other ≡ false) step_in all h.0)),
      more,
    )

nothing-exchanged : (test : Element → Bool) (all : List Element) → AreDistinct clashes (map step_in all) → AreDistinct clashes (map step_in (exchanged test [] all))
unfolding AreDistinct exchanged
nothing-exchanged test [] h = tt
nothing-exchanged test (e ∷ all) h = cases (test e) (nothing-exchanged test all h.1)
  where
    cases : (b : Bool) → AreDistinct clashes (map step_in (exchanged test [] all)) → AreDistinct clashes (map step_in (cond b (filter (λ x. not (test x)) all) (e ∷ exchanged test [] all)))
    cases true more = distinct-kept (λ x. not (test x)) all h.1
    cases false more = (
      each_from (λ other. clashes e.0 other ≡ false) step_in (exchanged test [] all)
          (each_exchanged (λ x. clashes e.0 x.0 ≡ false) test [] all tt (each_map (λ other. clashes e.0 other ≡ false) step_in all h.0)),
      more,
    )

-- ---- all siblings are known to patches, or none is

abbrev AreKnown : Bool → List Element → Type 0
AreKnown b all = AllByRecursion (λ e. is_patched e.0.kind ≡ b) all

or_left : (a b : Bool) → (a || b) ≡ false → a ≡ false
or_left true b e = cc
or_left false b e = refl

or_right : (a b : Bool) → (a || b) ≡ false → b ≡ false
or_right true b e = cc
or_right false b e = e

alike : (a b : Bool) → cond a (not b) b ≡ false → b ≡ a
alike true true e = refl
alike true false e = cc
alike false true e = cc
alike false false e = refl

known-like : (all : List Element) → AreDistinct clashes (map step_in all) → (b : Bool) × AreKnown b all
unfolding AreDistinct
known-like [] h = (true, tt)
known-like (e ∷ all) h =
    (is_patched e.0.kind, (refl, each_so (λ x. clashes e.0 x.0 ≡ false) (λ x. is_patched x.0.kind ≡ is_patched e.0.kind) (λ x apart. alike (is_patched e.0.kind) (is_patched x.0.kind) (or_right (same_key e.0 x.0) (unlike_kinds e.0 x.0) apart)) all (each_map (λ other. clashes e.0 other ≡ false) step_in all h.0)))

same_answers : (x y : Bool) → (x ≡ true → y ≡ true) → (y ≡ true → x ≡ true) → x ≡ y
same_answers true y h k = sym (h refl)
same_answers false true h k = k refl
same_answers false false h k = refl

bytes_turn : (a b : List ℕ) → bytes_eq a b ≡ bytes_eq b a
bytes_turn a b =
    let one = bytes_decides a b in
    let two = bytes_decides b a in
    same_answers (bytes_eq a b) (bytes_eq b a) (λ e. two.1 (sym (one.0 e))) (λ e. one.1 (sym (two.0 e)))

-- a child that is known to patches and doesn't have the name is apart from the array
name-apart : (name : List ℕ) (kind : Kind) (e : Element) → is_patched kind ≡ true → is_patched e.0.kind ≡ true → bytes_eq name e.0.name ≡ false → Apart (record { kind = kind; name = name; number = 0 }) e
unfolding same_key
name-apart name kind e known also differ = (
  ap₂ (λ (a b : Bool). (a && nat_eq 0 e.0.number) || b) differ (ap₂ (λ (a b : Bool). cond a (not b) b) known also),
  ap₂ (λ (a b : Bool). (a && nat_eq e.0.number 0) || b) (bytes_turn e.0.name name ∙ differ) (ap₂ (λ (a b : Bool). cond a (not b) b) also known),
)

any_none : {A : Type 0} (p : A → Bool) (xs : List A) → list_any p xs ≡ false → AllByRecursion (λ x. p x ≡ false) xs
any_none p [] e = tt
any_none p (x ∷ xs) e = (or_left (p x) (list_any p xs) e, any_none p xs (or_right (p x) (list_any p xs) e))

free : (a b c : Bool) → ((a && b) && not c) ≡ false → a ≡ true → c ≡ false → b ≡ false
free true true false e known left = cc
free true false false e known left = refl
free true b true e known left = cc
free false b c e known left = cc

apart-each : (pattern : PatternItems) (name : List ℕ) (kind : Kind) (all : List Element) → is_patched kind ≡ true → AreKnown true all → is_taken pattern name all ≡ false → AllByRecursion (λ e. is_member pattern e ≡ false → Apart (record { kind = kind; name = name; number = 0 }) e) all
unfolding is_named
apart-each pattern name kind all known also none =
    each_both (λ e. is_patched e.0.kind ≡ true) (λ e. (is_named name e.0 && not (is_member pattern e)) ≡ false) (λ e. is_member pattern e ≡ false → Apart (record { kind = kind; name = name; number = 0 }) e)
    (λ e here isnt left. name-apart name kind e known here (free (is_patched e.0.kind) (bytes_eq name e.0.name) (is_member pattern e) isnt here left)) all also
    (any_none (λ e. is_named name e.0 && not (is_member pattern e)) all none)

-- a member tells that all are known
all-known : (pattern : PatternItems) (all : List Element) (b : Bool) (first : Element) → AreKnown b all → (is_patched first.0.kind ≡ b) × (is_member pattern first ≡ true) → AreKnown true all
all-known pattern all b first known h = subst (λ (c : Bool). AreKnown c all) (sym h.0 ∙ member-patched pattern first h.1) known

steps-distinct : (pattern : PatternItems) (name : List ℕ) (all some : List Element) (b : Bool) → AreKnown b all → AllByRecursion (λ e. (is_patched e.0.kind ≡ b) × (is_member pattern e ≡ true)) some → is_taken pattern name all ≡ false → AreDistinct clashes (map step_in all) → AreDistinct clashes (map step_in (exchanged (is_member pattern) (array_of exact name some) all))
steps-distinct pattern name all [] b known members none h = nothing-exchanged (is_member pattern) all h
steps-distinct pattern name all (first ∷ others) b known members none h =
    distinct-exchanged (is_member pattern) (renamed_step name first.0, record { keys = dimmed _ _ first.1.keys; below = first.1.below }) all
    (apart-each pattern name first.0.kind all (member-patched pattern first members.0.1) (all-known pattern all b first known members.0) none) h

array-apart : (name : List ℕ) (some : List Element) → AllByRecursion (λ e. IsDistinct clashes e.1.below) some → AllByRecursion (λ e. IsDistinct clashes e.1.below) (array_of exact name some)
array-apart name [] h = tt
array-apart name (first ∷ others) h = (h.0, tt)

pub array-distinct : (line : ℕ) (pattern : PatternItems) (name : List ℕ) → Keeps (IsDistinct clashes) (arrayed_below exact line pattern name)
array-distinct line pattern name kind f new e h =
    subst (IsDistinct clashes) made.1
    (IsDistinct-siblings clashes (with_array exact pattern name all)
    (steps-distinct pattern name all (arranged pattern all) known.0 known.1 (order-each (λ x. is_patched x.0.kind ≡ known.0) pattern all known.1) made.0 each.0)
    (each_exchanged (λ x. IsDistinct clashes x.1.below) (is_member pattern) (array_of exact name (arranged pattern all)) all
    (array-apart name (arranged pattern all) (all_ordered (λ x. IsDistinct clashes x.1.below) offset_of (filter (is_member pattern) all) (each_kept (λ x. IsDistinct clashes x.1.below) (is_member pattern) all each.1)))
    each.1))
  where
    all : List Element
    all = elements f

    made : (is_taken pattern name all ≡ false) × (siblings (with_array exact pattern name all) ≡ new)
    made = gave line pattern name kind f new e

    each : AreDistinct clashes (map step_in all) × AllByRecursion (λ x. IsDistinct clashes x.1.below) all
    each = IsDistinct-each clashes all (subst (IsDistinct clashes) (sym (siblings-elements f)) h)

    known : (b : Bool) × AreKnown b all
    known = known-like all each.0
