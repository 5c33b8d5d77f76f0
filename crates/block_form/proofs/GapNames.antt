-- The names of gaps.
use Rattle.std.proofs.Common.{◌≡◌, ℕ, zero, suc, ◌+◌, ◌/◌, ◌%◌, ◌<◌, ◌^◌, Bool, true, false, nat_lt, nat_eq, ◌&&◌, List, [], ◌∷◌, decimal, drop, bytes_eq, refl, ap, ◌∙◌, arith, if◌then◌else◌}
use Rattle.std.proofs.lemmas.Bool.Decides.{nat_tests}
use Rattle.std.proofs.lemmas.Fmt.{decimal_injective}
use Rattle.std.proofs.lemmas.Slice.Eq.{bytes_eq-Decides}
use Rattle.std.specs.Fmt.{digits, digits_onto, digit_glyph}
use Rattle.std.specs.List.{list_all}
use Rattle.pac_base.specs.Names.{IsWord, is_word_byte}
use Rattle.rust_names.specs.Identifiers.{IsIdentifier}
use Rattle.rust_names.specs.Keywords.{is_keyword}
use Rattle.block_form.specs.Gaps.{gap_name}

digit-word : (d : ℕ) → d < 10 → is_word_byte (digit_glyph false d) ≡ true
digit-word d less = ap (λ b. is_word_byte (if b then 48 + d else 87 + d)) is ∙ word
  where
    is : nat_lt d 10 ≡ true
    is = grind (arith, nat_tests, less)

    word : is_word_byte (48 + d) ≡ true
    word = grind (arith, nat_tests, less)

digits-word : (k n : ℕ) (acc : List ℕ) → IsWord acc → IsWord (digits_onto k 10 false n acc)
digits-word zero n acc h = h
digits-word (suc k) n acc h = by (nat_eq (n / 10) 0) (digits-word k (n / 10) (digit_glyph false (n % 10) ∷ acc) further)
  where
    less : n % 10 < 10
    less = omega arith

    further : IsWord (digit_glyph false (n % 10) ∷ acc)
    further = ap (λ b. b && list_all is_word_byte acc) (digit-word (n % 10) less) ∙ h

    by : (b : Bool) → IsWord (digits_onto k 10 false (n / 10) (digit_glyph false (n % 10) ∷ acc)) → IsWord (if b then digit_glyph false (n % 10) ∷ acc else digits_onto k 10 false (n / 10) (digit_glyph false (n % 10) ∷ acc))
    by true rest = further
    by false rest = rest

decimal-word : (n : ℕ) → IsWord (decimal n)
unfolding digits
decimal-word n = digits-word 64 n [] refl

pub gap-identifier : (n : ℕ) → IsIdentifier (gap_name n)
unfolding gap_name is_keyword
gap-identifier n = rw (decimal-word n) refl

pub gaps_differ : (m n : ℕ) → m < n → n < 2 ^ 64 → bytes_eq (gap_name m) (gap_name n) ≡ false
unfolding gap_name
gaps_differ m n less within = by (bytes_eq (gap_name m) (gap_name n)) refl
  where
    by : (b : Bool) → bytes_eq (gap_name m) (gap_name n) ≡ b → b ≡ false
    by false is = refl
    by true is = let one : m ≡ n = decimal_injective m n (omega arith) within (ap (drop 9) ((bytes_eq-Decides (gap_name m) (gap_name n)).0 is)) in absurd (omega arith)
