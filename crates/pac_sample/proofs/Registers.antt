-- The registers of a peripheral are 64 numbers in a row, or as many as there are.
use Rattle.std.proofs.Common.{ℕ, ◌≡◌, ◌<◌, ◌≤◌, ◌+◌, ◌-◌, ◌*◌, ◌/◌, ◌==◌, suc, zero, min, max, Bool, true, false, cond, List, ◌∷◌, ap, ap₂, sym, refl, ◌∙◌, ◌⊎◌, inl, inr, arith}
use Rattle.std.specs.List.{filter, range_with_len}
use Rattle.std.proofs.lemmas.Bool.Decides.{nat_tests}
use Rattle.pac_sample.specs.Numbered.{between, registers_of}
use Rattle.pac_sample.proofs.Numbered.{between-more, between-none}

module _ (p : ℕ) where
  -- those of the numbers from a on that are in peripheral p
  among : ℕ → ℕ → List ℕ
  among a n = between (max a (64 * p)) (min (64 * p + 64) (a + n))

  apart : {a : ℕ} → (a / 64 == p) ≡ false → (a < 64 * p) ⊎ (64 * p + 64 ≤ a)
  apart {a} is = grind (arith, nat_tests, is)

  next : (a n : ℕ) (is : Bool) → (a / 64 == p) ≡ is → filter (λ j. j / 64 == p) (range_with_len (a + 1) n) ≡ among (a + 1) n → cond is (a ∷ filter (λ j. j / 64 == p) (range_with_len (a + 1) n)) (filter (λ j. j / 64 == p) (range_with_len (a + 1) n)) ≡ among a (suc n)
  unfolding among
  next a n true is others =
      let here : a / 64 ≡ p = grind (arith, nat_tests, is) in
      let first : max a (64 * p) ≡ a = omega (arith, here) in
      let behind : max (a + 1) (64 * p) ≡ a + 1 = omega (arith, here) in
      let below : a < min (64 * p + 64) (a + suc n) = omega (arith, here) in
      let end : min (64 * p + 64) ((a + 1) + n) ≡ min (64 * p + 64) (a + suc n) = omega arith in
      ap (λ left. a ∷ left) (others ∙ ap₂ between behind end) ∙ (sym (between-more a (min (64 * p + 64) (a + suc n)) below) ∙ ap (λ start. between start (min (64 * p + 64) (a + suc n))) (sym first))
  next a n false is others = others ∙ elsewhere (apart is)
    where
      elsewhere : (a < 64 * p) ⊎ (64 * p + 64 ≤ a) → between (max (a + 1) (64 * p)) (min (64 * p + 64) ((a + 1) + n)) ≡ between (max a (64 * p)) (min (64 * p + 64) (a + suc n))
      elsewhere (inl before) =
          let first : max (a + 1) (64 * p) ≡ max a (64 * p) = omega (arith, before) in
          let end : min (64 * p + 64) ((a + 1) + n) ≡ min (64 * p + 64) (a + suc n) = omega arith in
          ap₂ between first end
      elsewhere (inr behind) =
          between-none (max (a + 1) (64 * p)) (min (64 * p + 64) ((a + 1) + n)) (omega (arith, behind))
          ∙ sym (between-none (max a (64 * p)) (min (64 * p + 64) (a + suc n)) (omega (arith, behind)))

  filtered : (a n : ℕ) → filter (λ j. j / 64 == p) (range_with_len a n) ≡ among a n
  unfolding among
  filtered a zero = sym (between-none (max a (64 * p)) (min (64 * p + 64) (a + 0)) (omega arith))
  filtered a (suc n) = next a n (a / 64 == p) refl (filtered (a + 1) n)

  pub registers_of-between : (count : ℕ) → registers_of count p ≡ between (64 * p) (min (64 * p + 64) count)
  unfolding among
  registers_of-between count =
      let all : count - 0 ≡ count = omega arith in
      let first : max 0 (64 * p) ≡ 64 * p = omega arith in
      let end : 0 + count ≡ count = omega arith in
      ap (λ n. filter (λ j. j / 64 == p) (range_with_len 0 n)) all ∙ (filtered 0 count ∙ ap₂ (λ start n. between start (min (64 * p + 64) n)) first end)
