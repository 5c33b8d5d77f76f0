-- The first of all pairs is the first that is met by one before it.
use Rattle.std.proofs.Common.{◌≡◌, Bool, true, false, cond, List, [], ◌∷◌, ◌++◌, map, filter, Some, option_map, refl, ap, ap₂, ◌∙◌}
use Rattle.std.proofs.lemmas.List.Elements.{filter-append}
use Rattle.overlap_sweep.specs.Fields.{first_of, passes}
use Rattle.overlap_sweep.specs.Search.{first_against, first_pair, or_else}
use Rattle.svd_model.specs.Checking.{pairs_behind}

pub first-append : {A : Type 0} (xs ys : List A) → first_of (xs ++ ys) ≡ or_else (first_of xs) (first_of ys)
first-append [] ys = refl
first-append (x ∷ xs) ys = refl

first-against : {A : Type 0} (test : A → A → Bool) (x : A) (before : List A) → first_of (filter (passes test) (map (λ first. (first, x)) before)) ≡ option_map (λ first. (first, x)) (first_against test x before)
first-against test x [] = refl
first-against {A = A} test x (first ∷ before) = cases (test first x) (first-against test x before)
  where
    cases : (b : Bool) → first_of (filter (passes test) (map (λ first. (first, x)) before)) ≡ option_map (λ first. (first, x)) (first_against test x before) → first_of (cond b ((first, x) ∷ filter (passes test) (map (λ first. (first, x)) before)) (filter (passes test) (map (λ first. (first, x)) before))) ≡ option_map (λ first. (first, x)) (cond b (Some first) (first_against test x before))
    cases true rest = refl
    cases false rest = rest

pub first-pairs : {A : Type 0} (test : A → A → Bool) (before xs : List A) → first_of (filter (passes test) (pairs_behind before xs)) ≡ first_pair test before xs
unfolding first_pair pairs_behind
first-pairs test before [] = refl
first-pairs {A = A} test before (x ∷ xs) =
    ap first_of (filter-append (passes test) (map (λ first. (first, x)) before) (pairs_behind (before ++ x ∷ []) xs))
    ∙ first-append (filter (passes test) (map (λ first. (first, x)) before)) (filter (passes test) (pairs_behind (before ++ x ∷ []) xs))
    ∙ ap₂ or_else (first-against test x before) (first-pairs test (before ++ x ∷ []) xs)
