-- One of the siblings that stand in a list, between those before and those after it: what is done at its
-- step is done to it alone.
use Rattle.std.proofs.Common.{◌≡◌, ℕ, ◌+◌, Bool, true, false, List, [], ◌∷◌, ◌++◌, map, take, drop, set, slice_get, Some, refl, sym, ap, ap₂, ◌∙◌, subst, add-one}
use Rattle.std.proofs.lemmas.List.{set_split, take-append-drop, drop_more, map-append}
use Rattle.std.proofs.lemmas.Option.{slice_get_within, get_or_from_slice_get}
use Rattle.std.specs.List.{AllByRecursion}
use Rattle.std.proofs.lemmas.Bool.{cond-true, cond-false}
use Rattle.svd_rows.specs.Edits.{planted, in_children, replaced, renamed}
use Rattle.svd_rows.specs.Elements.{IsAbsent, IsDistinct, child_at}
use Rattle.svd_rows.specs.Forest.{Forest, Tree, leaf, node, join, siblings, steps}
use Rattle.svd_rows.specs.Paths.{IsSame}
use Rattle.svd_rows.specs.RowEdits.{other_step}
use Rattle.svd_rows.proofs.Exchanging.{replaced-split}
use Rattle.svd_rows.proofs.Siblings.{siblings-append}
use Rattle.svd_rows.proofs.Standing.{Splits, in_children-split}

-- a test that tells whether two steps are equal takes them in either order
turned : {S : Type 0} (same : S → S → Bool) → IsSame same → (one other : S) → same one other ≡ false → same other one ≡ false
turned same law one other e = cases (same other one) refl
  where
    cases : (b : Bool) → same other one ≡ b → b ≡ false
    cases true h = sym (law.itself one) ∙ ap (same one) (sym (law.alone other one h)) ∙ e
    cases false h = refl

module _ {S K : Type 0} where
  absent-front : (same : S → S → Bool) → IsSame same → (before : List (S × Tree S K)) (x : S × Tree S K) (after : List (S × Tree S K)) → IsDistinct same (siblings (before ++ x ∷ after)) → IsAbsent same x.0 (siblings before)
  unfolding IsDistinct siblings steps
  absent-front same law [] x after distinct = tt
  absent-front same law (y ∷ before) x after distinct =
      (turned same law y.0 x.0 (met before distinct.0), absent-front same law before x after distinct.2)
    where
      met : (front : List (S × Tree S K)) → AllByRecursion (λ other. same y.0 other ≡ false) (steps (siblings (front ++ x ∷ after))) → same y.0 x.0 ≡ false
      met [] h = h.0
      met (z ∷ front) h = met front h.1

  absent-back : (same : S → S → Bool) (before : List (S × Tree S K)) (x : S × Tree S K) (after : List (S × Tree S K)) → IsDistinct same (siblings (before ++ x ∷ after)) → IsAbsent same x.0 (siblings after)
  unfolding IsDistinct siblings
  absent-back same [] x after distinct = distinct.0
  absent-back same (y ∷ before) x after distinct = absent-back same before x after distinct.2

  -- below each of distinct siblings all are distinct
  distinct-one : (same : S → S → Bool) (before : List (S × Tree S K)) (x : S × Tree S K) (after : List (S × Tree S K)) → IsDistinct same (siblings (before ++ x ∷ after)) → IsDistinct same x.1.below
  unfolding IsDistinct siblings
  distinct-one same [] x after distinct = distinct.1
  distinct-one same (y ∷ before) x after distinct = distinct-one same before x after distinct.2

  absent-append : (same : S → S → Bool) (step : S) (xs ys : List (S × Tree S K)) → IsAbsent same step (siblings xs) → IsAbsent same step (siblings ys) → IsAbsent same step (siblings (xs ++ ys))
  unfolding siblings steps
  absent-append same step [] ys none none_more = none_more
  absent-append same step (x ∷ xs) ys none none_more = (none.0, absent-append same step xs ys none.1 none_more)

  absent-exchanged : (same : S → S → Bool) (step : S) (before : List (S × Tree S K)) (x : S × Tree S K) (after new : List (S × Tree S K)) → IsAbsent same step (siblings (before ++ x ∷ after)) → IsAbsent same step (siblings new) → IsAbsent same step (siblings (before ++ (new ++ after)))
  unfolding siblings steps
  absent-exchanged same step [] x after new none none_new = absent-append same step new after none_new none.1
  absent-exchanged same step (y ∷ before) x after new none none_new = (none.0, absent-exchanged same step before x after new none.1 none_new)

  distinct-append : (same : S → S → Bool) (xs ys : List (S × Tree S K)) → IsDistinct same (siblings xs) → IsDistinct same (siblings ys) → AllByRecursion (λ x. IsAbsent same x.0 (siblings ys)) xs → IsDistinct same (siblings (xs ++ ys))
  unfolding IsDistinct siblings
  distinct-append same [] ys distinct distinct_more apart = distinct_more
  distinct-append same (x ∷ xs) ys distinct distinct_more apart =
      (absent-append same x.0 xs ys distinct.0 apart.0, distinct.1, distinct-append same xs ys distinct.2 distinct_more apart.1)

  -- distinct siblings stay distinct where others, which are distinct and have none of their steps, stand in the
  -- place of one
  pub distinct-exchanged : (same : S → S → Bool) (before : List (S × Tree S K)) (x : S × Tree S K) (after new : List (S × Tree S K)) → IsDistinct same (siblings (before ++ x ∷ after)) → IsDistinct same (siblings new) → AllByRecursion (λ y. IsAbsent same y.0 (siblings new)) before → AllByRecursion (λ y. IsAbsent same y.0 (siblings after)) new → IsDistinct same (siblings (before ++ (new ++ after)))
  unfolding IsDistinct siblings
  distinct-exchanged same [] x after new distinct distinct_new apart_before apart_after = distinct-append same new after distinct_new distinct.2 apart_after
  distinct-exchanged same (y ∷ before) x after new distinct distinct_new apart_before apart_after =
      (absent-exchanged same y.0 before x after new distinct.0 apart_before.0, distinct.1, distinct-exchanged same before x after new distinct.2 distinct_new apart_before.1 apart_after)

  -- the siblings of a list, split at one of its elements
  pub siblings-split : (before : List (S × Tree S K)) (x : S × Tree S K) (after : List (S × Tree S K)) → siblings (before ++ x ∷ after) ≡ join (siblings before) (planted x.0 x.1 (siblings after))
  unfolding siblings
  siblings-split before x after = siblings-append before (x ∷ after)

  pub one_of-splits : (same : S → S → Bool) → IsSame same → (before : List (S × Tree S K)) (x : S × Tree S K) (after : List (S × Tree S K)) → IsDistinct same (siblings (before ++ x ∷ after)) → Splits same x.0 (siblings (before ++ x ∷ after)) x.1
  one_of-splits same law before x after distinct = record {
    left = siblings before;
    right = siblings after;
    is = siblings-split before x after;
    absent_left = absent-front same law before x after distinct;
    absent_right = absent-back same before x after distinct;
  }

  child_at-one : (same : S → S → Bool) → IsSame same → (before : List (S × Tree S K)) (x : S × Tree S K) (after : List (S × Tree S K)) → IsAbsent same x.0 (siblings before) → child_at (same x.0) (siblings (before ++ x ∷ after)) ≡ Some x.1
  unfolding child_at siblings steps
  child_at-one same law [] x after absent = cond-true (same x.0 x.0) (Some x.1) (child_at (same x.0) (siblings after)) (law.itself x.0)
  child_at-one same law (y ∷ before) x after absent =
      cond-false (same x.0 y.0) (Some y.1) (child_at (same x.0) (siblings (before ++ x ∷ after))) absent.0
      ∙ child_at-one same law before x after absent.1

  -- an edit of the sibling at the step of one is one of this element
  pub in_children-one : (same : S → S → Bool) → IsSame same → (edit : Tree S K → Tree S K) (before : List (S × Tree S K)) (x : S × Tree S K) (after : List (S × Tree S K)) → IsDistinct same (siblings (before ++ x ∷ after)) → in_children (same x.0) edit (siblings (before ++ x ∷ after)) ≡ siblings (before ++ (x.0, edit x.1) ∷ after)
  in_children-one same law edit before x after distinct =
      ap (in_children (same x.0) edit) (siblings-split before x after)
      ∙ in_children-split same law x.0 edit (siblings before) x.1 (siblings after) (absent-front same law before x after distinct) (absent-back same before x after distinct)
      ∙ sym (siblings-split before (x.0, edit x.1) after)

  -- siblings that replace the one at this step stand in its place
  pub replaced-one : (same : S → S → Bool) → IsSame same → (made : S → Tree S K → List (S × Tree S K)) (before : List (S × Tree S K)) (x : S × Tree S K) (after : List (S × Tree S K)) → IsDistinct same (siblings (before ++ x ∷ after)) → replaced (same x.0) (λ step child. siblings (made step child)) (siblings (before ++ x ∷ after)) ≡ siblings (before ++ (made x.0 x.1 ++ after))
  replaced-one same law made before x after distinct =
      ap (replaced (same x.0) (λ step child. siblings (made step child))) (siblings-split before x after)
      ∙ replaced-split same law x.0 (λ step child. siblings (made step child)) (siblings before) x.1 (siblings after) (absent-front same law before x after distinct) (absent-back same before x after distinct)
      ∙ ap (join (siblings before)) (sym (siblings-append (made x.0 x.1) after))
      ∙ sym (siblings-append before (made x.0 x.1 ++ after))

  renamed-absent : (same : S → S → Bool) (old new : S) (f : Forest S K) → IsAbsent same old f → renamed (other_step same old new) f ≡ f
  unfolding renamed steps
  renamed-absent same old new leaf absent = refl
  renamed-absent same old new (node s ks c n) absent =
      ap₂ (λ t g. node t ks c g) (cond-false (same old s) new s absent.0) (renamed-absent same old new n absent.1)

  renamed-front : (same : S → S → Bool) (old new : S) (f g : Forest S K) → IsAbsent same old f → renamed (other_step same old new) (join f g) ≡ join f (renamed (other_step same old new) g)
  unfolding renamed steps join
  renamed-front same old new leaf g absent = refl
  renamed-front same old new (node s ks c n) g absent =
      ap₂ (λ t h. node t ks c h) (cond-false (same old s) new s absent.0) (renamed-front same old new n g absent.1)

  renamed-here : (same : S → S → Bool) → IsSame same → (old new : S) (child : Tree S K) (right : Forest S K) → IsAbsent same old right → renamed (other_step same old new) (planted old child right) ≡ planted new child right
  unfolding renamed
  renamed-here same law old new child right absent =
      ap₂ (λ t h. planted t child h) (cond-true (same old old) new old (law.itself old)) (renamed-absent same old new right absent)

  -- the sibling of this step alone has another step
  pub renamed-one : (same : S → S → Bool) → IsSame same → (new : S) (before : List (S × Tree S K)) (x : S × Tree S K) (after : List (S × Tree S K)) → IsDistinct same (siblings (before ++ x ∷ after)) → renamed (other_step same x.0 new) (siblings (before ++ x ∷ after)) ≡ siblings (before ++ (new, x.1) ∷ after)
  renamed-one same law new before x after distinct =
      ap (renamed (other_step same x.0 new)) (siblings-split before x after)
      ∙ renamed-front same x.0 new (siblings before) (planted x.0 x.1 (siblings after)) (absent-front same law before x after distinct)
      ∙ ap (join (siblings before)) (renamed-here same law x.0 new x.1 (siblings after) (absent-back same before x after distinct))
      ∙ sym (siblings-split before (new, x.1) after)

module _ {A : Type 0} where
  -- a list, split at the place of one of its elements
  split_at : (xs : List A) (i : ℕ) (x : A) → slice_get xs i ≡ Some x → xs ≡ take i xs ++ x ∷ drop (i + 1) xs
  split_at xs i x here =
      sym (take-append-drop i xs)
      ∙ ap (λ r. take i xs ++ r) (drop_more xs i x (slice_get_within xs i x here) ∙ ap (λ y. y ∷ drop (i + 1) xs) (get_or_from_slice_get xs i x x here))

  set_at : (xs : List A) (i : ℕ) (x y : A) → slice_get xs i ≡ Some x → set xs i y ≡ take i xs ++ y ∷ drop (i + 1) xs
  set_at xs i x y here = set_split xs i y (slice_get_within xs i x here) ∙ ap (λ n. take i xs ++ y ∷ drop n xs) (sym (add-one i))

module _ {A S K : Type 0} (same : S → S → Bool) (law : IsSame same) (seen : A → S × Tree S K) (xs : List A) (i : ℕ) (x : A) (here : slice_get xs i ≡ Some x) (distinct : IsDistinct same (siblings (map seen xs))) where
  seen_split : map seen xs ≡ map seen (take i xs) ++ seen x ∷ map seen (drop (i + 1) xs)
  seen_split = ap (map seen) (split_at xs i x here) ∙ map-append seen (take i xs) (x ∷ drop (i + 1) xs)

  seen_set : (y : A) (made : S × Tree S K) → seen y ≡ made → map seen (set xs i y) ≡ map seen (take i xs) ++ made ∷ map seen (drop (i + 1) xs)
  seen_set y made is_made =
      ap (map seen) (set_at xs i x y here)
      ∙ map-append seen (take i xs) (y ∷ drop (i + 1) xs)
      ∙ ap (λ m. map seen (take i xs) ++ m ∷ map seen (drop (i + 1) xs)) is_made

  distinct_split : IsDistinct same (siblings (map seen (take i xs) ++ seen x ∷ map seen (drop (i + 1) xs)))
  distinct_split = subst (λ all. IsDistinct same (siblings all)) seen_split distinct

  -- below the element at a place all are distinct
  pub distinct-at : IsDistinct same (seen x).1.below
  distinct-at = distinct-one same (map seen (take i xs)) (seen x) (map seen (drop (i + 1) xs)) distinct_split

  -- the element at a place is the sibling of its step
  pub child_at-at : child_at (same (seen x).0) (siblings (map seen xs)) ≡ Some (seen x).1
  child_at-at =
      ap (λ all. child_at (same (seen x).0) (siblings all)) seen_split
      ∙ child_at-one same law (map seen (take i xs)) (seen x) (map seen (drop (i + 1) xs)) (absent-front same law (map seen (take i xs)) (seen x) (map seen (drop (i + 1) xs)) distinct_split)

  -- where the element at a place is edited, so is the sibling of its step
  pub in_children-at : (edit : Tree S K → Tree S K) (y : A) → seen y ≡ ((seen x).0, edit (seen x).1) → siblings (map seen (set xs i y)) ≡ in_children (same (seen x).0) edit (siblings (map seen xs))
  in_children-at edit y is_edited =
      ap siblings (seen_set y ((seen x).0, edit (seen x).1) is_edited)
      ∙ sym (ap (λ all. in_children (same (seen x).0) edit (siblings all)) seen_split
      ∙ in_children-one same law edit (map seen (take i xs)) (seen x) (map seen (drop (i + 1) xs)) distinct_split)

  -- where the element at a place has another step, so has the sibling of its step
  pub renamed-at : (new : S) (y : A) → seen y ≡ (new, (seen x).1) → siblings (map seen (set xs i y)) ≡ renamed (other_step same (seen x).0 new) (siblings (map seen xs))
  renamed-at new y is_renamed =
      ap siblings (seen_set y (new, (seen x).1) is_renamed)
      ∙ sym (ap (λ all. renamed (other_step same (seen x).0 new) (siblings all)) seen_split
      ∙ renamed-one same law new (map seen (take i xs)) (seen x) (map seen (drop (i + 1) xs)) distinct_split)

  -- where others stand in the place of the element, so do they in that of the sibling of its step
  pub replaced-at : (made : S → Tree S K → List (S × Tree S K)) (members : List A) → map seen members ≡ made (seen x).0 (seen x).1 → siblings (map seen (take i xs ++ (members ++ drop (i + 1) xs))) ≡ replaced (same (seen x).0) (λ step child. siblings (made step child)) (siblings (map seen xs))
  replaced-at made members is_made =
      ap siblings
      (map-append seen (take i xs) (members ++ drop (i + 1) xs)
      ∙ ap (λ r. map seen (take i xs) ++ r) (map-append seen members (drop (i + 1) xs) ∙ ap (λ r. r ++ map seen (drop (i + 1) xs)) is_made))
      ∙ sym (ap (λ all. replaced (same (seen x).0) (λ step child. siblings (made step child)) (siblings all)) seen_split
      ∙ replaced-one same law made (map seen (take i xs)) (seen x) (map seen (drop (i + 1) xs)) distinct_split)

  -- the sibling at the step of this element
  pub splits-at : Splits same (seen x).0 (siblings (map seen xs)) (seen x).1
  splits-at = subst (λ all. Splits same (seen x).0 (siblings all) (seen x).1) (sym seen_split) (one_of-splits same law (map seen (take i xs)) (seen x) (map seen (drop (i + 1) xs)) distinct_split)
