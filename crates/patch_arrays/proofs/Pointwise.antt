-- Two lists that are compared item by item.
use Rattle.std.proofs.Common.{◌≡◌, ℕ, zero, suc, ◌+◌, ◌≤◌, Bool, true, false, ◌&&◌, List, [], ◌∷◌, map, drop, length, slice_get, Some, refl, sym, ap, ap₂, ◌∙◌, arith}
use Rattle.std.specs.Cmp.Lexicographic.{pointwise}

module _ {A : Type 0} (same : A → A → Bool) where
  -- what is left decides
  abbrev pub SameFrom : List A → List A → ℕ → Type 0
  SameFrom xs ys n = pointwise same (drop n xs) (drop n ys) ≡ pointwise same xs ys

  next_at : (xs ys : List A) (n : ℕ) (x y : A) → slice_get xs n ≡ Some x → slice_get ys n ≡ Some y → pointwise same (drop n xs) (drop n ys) ≡ (same x y && pointwise same (drop (suc n) xs) (drop (suc n) ys))
  next_at [] ys n x y a b = cc
  next_at (z ∷ xs) [] n x y a b = cc
  next_at (z ∷ xs) (v ∷ ys) zero x y a b =
      let one : z ≡ x = cc in
      let other : v ≡ y = cc in
      ap₂ (λ (s t : A). same s t && pointwise same xs ys) one other
  next_at (z ∷ xs) (v ∷ ys) (suc n) x y a b = next_at xs ys n x y a b

  more_at : (xs ys : List A) (n : ℕ) (x y : A) → slice_get xs n ≡ Some x → slice_get ys n ≡ Some y → pointwise same (drop n xs) (drop n ys) ≡ (same x y && pointwise same (drop (n + 1) xs) (drop (n + 1) ys))
  more_at xs ys n x y a b = next_at xs ys n x y a b ∙ ap (λ (m : ℕ). same x y && pointwise same (drop m xs) (drop m ys)) (after n)
    where
      after : (m : ℕ) → suc m ≡ m + 1
      after m = omega arith

  pub step-at : (xs ys : List A) (n : ℕ) (x y : A) → slice_get xs n ≡ Some x → slice_get ys n ≡ Some y → same x y ≡ true → SameFrom xs ys n → SameFrom xs ys (n + 1)
  step-at xs ys n x y a b e so_far = sym (ap (λ (c : Bool). c && pointwise same (drop (n + 1) xs) (drop (n + 1) ys)) e) ∙ sym (more_at xs ys n x y a b) ∙ so_far

  pub stops-at : (xs ys : List A) (n : ℕ) (x y : A) → slice_get xs n ≡ Some x → slice_get ys n ≡ Some y → same x y ≡ false → SameFrom xs ys n → false ≡ pointwise same xs ys
  stops-at xs ys n x y a b e so_far = sym (ap (λ (c : Bool). c && pointwise same (drop (n + 1) xs) (drop (n + 1) ys)) e) ∙ sym (more_at xs ys n x y a b) ∙ so_far

  drop-all : (xs : List A) (n : ℕ) → length xs ≤ n → drop n xs ≡ []
  drop-all [] zero le = refl
  drop-all [] (suc n) le = refl
  drop-all (x ∷ xs) zero le = absurd (omega (arith, le))
  drop-all (x ∷ xs) (suc n) le = drop-all xs n (omega (arith, le))

  pub same-ends : (xs ys : List A) (n : ℕ) → length xs ≤ n → length ys ≤ n → SameFrom xs ys n → true ≡ pointwise same xs ys
  same-ends xs ys n a b so_far = sym (ap₂ (pointwise same) (drop-all xs n a) (drop-all ys n b)) ∙ so_far

-- what is seen of two lists
pub seen-pointwise : {A B : Type 0} (same : B → B → Bool) (seen : A → B) (xs ys : List A) → pointwise (λ x y. same (seen x) (seen y)) xs ys ≡ pointwise same (map seen xs) (map seen ys)
seen-pointwise same seen [] [] = refl
seen-pointwise same seen [] (y ∷ ys) = refl
seen-pointwise same seen (x ∷ xs) [] = refl
seen-pointwise same seen (x ∷ xs) (y ∷ ys) = ap (λ (b : Bool). same (seen x) (seen y) && b) (seen-pointwise same seen xs ys)
