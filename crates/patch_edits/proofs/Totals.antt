-- How many elements a list of siblings holds, with those below them.
use Rattle.std.proofs.Common.{◌≡◌, ◌≤◌, ℕ, ◌+◌, ◌-◌, ◌^◌, Bool, true, false, cond, not, List, [], ◌∷◌, map, filter, set, slice_get, Some, refl, sym, ap, ◌∙◌, subst, arith}
use Rattle.std.proofs.lemmas.List.Sums.{get_or-le-sum_by, sum_by-cons, sum_by-set}
use Rattle.std.proofs.lemmas.Option.{get_or_from_slice_get, slice_get_within}
use Rattle.std.specs.List.{sum_by}
use Rattle.svd_model.proofs.Counts.{counted_all, counted_on}
use Rattle.svd_model.specs.Counting.{elements_in, told_count}
use Rattle.svd_model.specs.Facts.{is_counted}
use Rattle.svd_model.specs.Keys.{Key}
use Rattle.svd_model.specs.Steps.{Step}
use Rattle.svd_rows.specs.Elements.{count}
use Rattle.svd_rows.specs.Forest.{Tree, siblings}

-- one sibling with those below it
abbrev pub weight : Step × Tree Step Key → ℕ
weight x = cond (is_counted x.0) 1 0 + elements_in x.1.below

module _ {A : Type 0} (seen : A → Step × Tree Step Key) where
  abbrev weight_of : A → ℕ
  weight_of x = weight (seen x)

  pub total-siblings : (xs : List A) → elements_in (siblings (map seen xs)) ≡ sum_by weight_of xs
  unfolding count siblings
  total-siblings [] = refl
  total-siblings (x ∷ xs) =
      ap (λ (n : ℕ). cond (is_counted (seen x).0) 1 0 + (elements_in (seen x).1.below + n)) (total-siblings xs)
      ∙ sums (cond (is_counted (seen x).0) 1 0) (elements_in (seen x).1.below) (sum_by weight_of xs)
      ∙ sym (sum_by-cons weight_of x xs)
    where
      sums : (a b c : ℕ) → a + (b + c) ≡ (a + b) + c
      sums a b c = omega arith

  -- another in the place of one
  pub total-set : (xs : List A) (i : ℕ) (x y : A) → slice_get xs i ≡ Some x → elements_in (siblings (map seen (set xs i y))) + weight (seen x) ≡ elements_in (siblings (map seen xs)) + weight (seen y)
  total-set xs i x y here =
      ap (λ (n : ℕ). n + weight_of x) (total-siblings (set xs i y))
      ∙ ap (λ (z : A). sum_by weight_of (set xs i y) + weight_of z) (sym (get_or_from_slice_get xs i x x here))
      ∙ sum_by-set weight_of xs i y x (slice_get_within xs i x here)
      ∙ ap (λ (n : ℕ). n + weight_of y) (sym (total-siblings xs))

  pub weight-within : (xs : List A) (i : ℕ) (x : A) → slice_get xs i ≡ Some x → weight (seen x) ≤ elements_in (siblings (map seen xs))
  weight-within xs i x here =
      subst (λ (n : ℕ). weight_of x ≤ n) (sym (total-siblings xs))
      (subst (λ (z : A). weight_of z ≤ sum_by weight_of xs) (get_or_from_slice_get xs i x x here) (get_or-le-sum_by weight_of xs i x (slice_get_within xs i x here)))

  -- those that pass a test, and those that don't
  pub total-parts : (test : A → Bool) (xs : List A) → elements_in (siblings (map seen (filter test xs))) + elements_in (siblings (map seen (filter (λ x. not (test x)) xs))) ≡ elements_in (siblings (map seen xs))
  unfolding count siblings
  total-parts test [] = refl
  total-parts test (x ∷ xs) = cases (test x) (total-parts test xs)
    where
      cases : (b : Bool) → elements_in (siblings (map seen (filter test xs))) + elements_in (siblings (map seen (filter (λ y. not (test y)) xs))) ≡ elements_in (siblings (map seen xs))
          → elements_in (siblings (map seen (cond b (x ∷ filter test xs) (filter test xs)))) + elements_in (siblings (map seen (cond (not b) (x ∷ filter (λ y. not (test y)) xs) (filter (λ y. not (test y)) xs)))) ≡ elements_in (siblings (map seen (x ∷ xs)))
      cases true more = omega (arith, more)
      cases false more = omega (arith, more)

  -- ---- those that pass a test are counted one after the other

  module _ (test : A → Bool) where
    abbrev left : List A → ℕ
    left xs = elements_in (siblings (map seen (filter test xs)))

    pub counted-one : (now total below whole : ℕ) (x : A) (rest all : List A) → is_counted (seen x).0 ≡ true → all ≡ x ∷ rest → test x ≡ true → below ≡ told_count (elements_in (seen x).1.below) → now ≡ told_count (total + told_count (1 + below))
        → told_count (total + left all) ≡ whole → told_count (now + left rest) ≡ whole
    counted-one now total below whole x rest all is are passes says grew before =
        counted_on now total below whole (seen x).0 (seen x).1 (map seen (filter test rest)) (map seen (filter test all)) is
        (ap (λ (xs : List A). map seen (filter test xs)) are ∙ ap (λ (b : Bool). map seen (cond b (x ∷ filter test rest) (filter test rest))) passes) says grew before

    pub counted-past : (total whole : ℕ) (x : A) (rest all : List A) → all ≡ x ∷ rest → test x ≡ false → told_count (total + left all) ≡ whole → told_count (total + left rest) ≡ whole
    counted-past total whole x rest all are fails before =
        ap (λ (xs : List A). told_count (total + elements_in (siblings (map seen xs)))) (sym (ap (filter test) are ∙ ap (λ (b : Bool). cond b (x ∷ filter test rest) (filter test rest)) fails)) ∙ before

    pub counted-none : (total whole : ℕ) (all : List A) → total ≤ 2 ^ 64 - 1 → all ≡ [] → told_count (total + left all) ≡ whole → total ≡ whole
    counted-none total whole all fits none before = counted_all total whole (map seen (filter test all)) fits (ap (λ (xs : List A). map seen (filter test xs)) none) before
