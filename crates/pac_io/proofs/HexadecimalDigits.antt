-- Hexadecimal digits, from the last one to the first.
use Rattle.std.proofs.Common.{◌≡◌, ℕ, suc, zero, ◌-◌, ◌/◌, ◌%◌, ◌<◌, ◌≤◌, Bool, true, false, cond, List, [], ◌∷◌, ◌++◌, take, replicate, refl, ap, ◌∙◌, nat_eq, eq-eqb, ne_eqb, arith}
use Rattle.std.proofs.Math.ListN.{length, drop, set, length-set}
use Rattle.std.proofs.Math.Seq.{drop-cons, get_or-set_same, drop-set-lt}
use Rattle.std.proofs.lemmas.List.{take-replicate}
use Rattle.pac_io.specs.Numerals.{hexadecimal}
use Rattle.std.specs.Fmt.{digit_glyph, digits_onto, digits}

pub onto_nothing : (n : ℕ) → digits_onto 64 16 false n [] ≡ digits 16 false n
unfolding digits
onto_nothing n = refl

module _ (n : ℕ) (after : List ℕ) where
  by_test : (k : ℕ) (t : Bool) → nat_eq (n / 16) 0 ≡ t → digits_onto (suc k) 16 false n after ≡ cond t (digit_glyph false (n % 16) ∷ after) (digits_onto k 16 false (n / 16) (digit_glyph false (n % 16) ∷ after))
  by_test k t e = ap (λ (b : Bool). cond b (digit_glyph false (n % 16) ∷ after) (digits_onto k 16 false (n / 16) (digit_glyph false (n % 16) ∷ after))) e

  -- the digit of the greatest place
  pub onto_first : (i : ℕ) → 0 < i → n / 16 ≡ 0 → digits_onto i 16 false n after ≡ digit_glyph false (n % 16) ∷ after
  onto_first zero h e = absurd (omega arith)
  onto_first (suc k) h e = by_test k true (eq-eqb _ 0 e)

  -- a digit that others stand before
  pub onto_next : (i : ℕ) → 0 < i → (n / 16 ≡ 0 → ⊥) → digits_onto i 16 false n after ≡ digits_onto (i - 1) 16 false (n / 16) (digit_glyph false (n % 16) ∷ after)
  onto_next zero h e = absurd (omega arith)
  onto_next (suc k) h e = by_test k false (ne_eqb _ 0 e) ∙ ap (λ (j : ℕ). digits_onto j 16 false (n / 16) (digit_glyph false (n % 16) ∷ after)) {x = k} {y = suc k - 1} (omega arith)

-- writing at index i - 1 prepends to the bytes from i on
pub drop-set-before : (text : List ℕ) (i x g : ℕ) → 0 < i → i ≤ length text → x ≡ g → drop (i - 1) (set text (i - 1) x) ≡ g ∷ drop i text
drop-set-before text zero x g h k e = absurd (omega arith)
drop-set-before text (suc j) x g h k e =
    ap (λ (m : ℕ). drop m (set text m x)) {x = suc j - 1} {y = j} (omega arith) ∙ drop-cons (set text j x) j 0 (omega (arith, length-set text j x))
    ∙ (λ t. (get_or-set_same text j x 0 k ∙ e) t ∷ drop-set-lt (suc j) text j x (omega arith) t)

-- digits with as many zeros in front of them as they lack
pub padded : (zeros least n : ℕ) (tail : List ℕ) → tail ≡ digits 16 false n → zeros ≡ least - length tail → least < 256 → take zeros (replicate 255 48) ++ tail ≡ hexadecimal least n
padded zeros least n tail same lacking small =
    ap (λ xs. xs ++ tail) (take-replicate zeros 255 48 (omega arith) ∙ ap (λ (k : ℕ). replicate k 48) lacking)
    ∙ ap (λ xs. replicate (least - length xs) 48 ++ xs) same
