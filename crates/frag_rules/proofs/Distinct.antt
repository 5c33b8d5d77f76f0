-- Things that are seen one after the other are distinct where each is new.
use Rattle.std.proofs.Common.{◌≡◌, ℕ, ◌+◌, ◌<◌, ◌≤◌, add-one, drop, length, slice_index_or, Bool, true, false, not, ◌&&◌, ◌||◌, List, [], ◌∷◌, ◌++◌, refl, ap, ap₂, ◌∙◌}
use Rattle.std.proofs.lemmas.List.{drop_all}
use Rattle.std.proofs.Math.Seq.{drop-cons}
use Rattle.std.specs.List.{list_all, list_any}
use Rattle.frag_sem.specs.Modules.{are_distinct}

-- each is new behind those that were seen
unfoldable pub fresh_behind : {A : Type 0} → (A → A → Bool) → List A → List A → Bool
fresh_behind same seen [] = true
fresh_behind same seen (first ∷ others) = not (list_any (same first) seen) && fresh_behind same (seen ++ first ∷ []) others

any-more : {A : Type 0} (test : A → Bool) (seen : List A) (x : A) → list_any test (seen ++ x ∷ []) ≡ (list_any test seen || test x)
any-more test [] x = by (test x)
  where
    by : (b : Bool) → (b || false) ≡ b
    by true = refl
    by false = refl
any-more test (y ∷ seen) x = by (test y) (any-more test seen x)
  where
    by : (b : Bool) → list_any test (seen ++ x ∷ []) ≡ (list_any test seen || test x) → (b || list_any test (seen ++ x ∷ [])) ≡ ((b || list_any test seen) || test x)
    by true e = refl
    by false e = e

-- none is seen, nor is it the one that is seen next
none-more : {A : Type 0} (same : A → A → Bool) → ((x y : A) → same x y ≡ same y x) → (seen : List A) (x : A) (xs : List A)
    → list_all (λ y. not (list_any (same y) (seen ++ x ∷ []))) xs ≡ (list_all (λ y. not (list_any (same y) seen)) xs && not (list_any (same x) xs))
none-more same turned seen x [] = refl
none-more {A} same turned seen x (y ∷ ys) =
    ap₂ (λ a b. not a && b) (any-more (same y) seen x ∙ ap (λ b. list_any (same y) seen || b) (turned y x)) (none-more same turned seen x ys)
    ∙ by (list_any (same y) seen) (same x y) (list_all (λ y. not (list_any (same y) seen)) ys) (list_any (same x) ys)
  where
    by : (a b c d : Bool) → (not (a || b) && (c && not d)) ≡ ((not a && c) && not (b || d))
    by true b c d = refl
    by false true true d = refl
    by false true false d = refl
    by false false c d = refl

fresh-is : {A : Type 0} (same : A → A → Bool) → ((x y : A) → same x y ≡ same y x) → (seen xs : List A)
    → fresh_behind same seen xs ≡ (list_all (λ x. not (list_any (same x) seen)) xs && are_distinct same xs)
unfolding fresh_behind are_distinct
fresh-is same turned seen [] = refl
fresh-is {A} same turned seen (x ∷ xs) =
    ap (λ b. not (list_any (same x) seen) && b) (fresh-is same turned (seen ++ x ∷ []) xs ∙ ap (λ b. b && are_distinct same xs) (none-more same turned seen x xs))
    ∙ by (list_any (same x) seen) (list_all (λ x. not (list_any (same x) seen)) xs) (list_any (same x) xs) (are_distinct same xs)
  where
    by : (a b c d : Bool) → (not a && ((b && not c) && d)) ≡ ((not a && b) && (not c && d))
    by true b c d = refl
    by false true c d = refl
    by false false c d = refl

all-true : {A : Type 0} (xs : List A) → list_all (λ x. true) xs ≡ true
all-true [] = refl
all-true (x ∷ xs) = all-true xs

-- where nothing was seen, all are new just where they are distinct
pub fresh-all : {A : Type 0} (same : A → A → Bool) → ((x y : A) → same x y ≡ same y x) → (xs : List A) → fresh_behind same [] xs ≡ are_distinct same xs
fresh-all same turned xs = fresh-is same turned [] xs ∙ ap (λ b. b && are_distinct same xs) (all-true xs)

-- ---- a loop

pub fresh-more : {A : Type 0} (same : A → A → Bool) (seen seen' all others : List A) (first : A) → all ≡ first ∷ others → true ≡ not (list_any (same first) seen) → seen' ≡ seen ++ first ∷ []
    → fresh_behind same seen' others ≡ fresh_behind same seen all
unfolding fresh_behind
fresh-more same seen seen' all others first is new kept = rw (is, kept) (ap (λ b. b && fresh_behind same (seen ++ first ∷ []) others) new)

pub fresh-stops : {A : Type 0} (same : A → A → Bool) (seen all others : List A) (first : A) → all ≡ first ∷ others → false ≡ not (list_any (same first) seen) → false ≡ fresh_behind same seen all
unfolding fresh_behind
fresh-stops same seen all others first is old = rw is (ap (λ b. b && fresh_behind same (seen ++ first ∷ []) others) old)

pub fresh-done : {A : Type 0} (same : A → A → Bool) (seen all : List A) → all ≡ [] → true ≡ fresh_behind same seen all
unfolding fresh_behind
fresh-done same seen all is = rw is refl

-- what is left of a list, from an index on
pub drop-at : {A : Type 0} (xs : List A) (i : ℕ) (past : A) → i < length xs → drop i xs ≡ slice_index_or xs i past ∷ drop (i + 1) xs
drop-at xs i past within = rw (add-one, drop-cons xs i past) refl

pub drop-end : {A : Type 0} (xs : List A) (i : ℕ) → length xs ≤ i → drop i xs ≡ []
drop-end xs i past = drop_all i xs past
