-- The digits of a number have its value.
use Rattle.std.proofs.Common.{ℕ, ◌≡◌, ◌+◌, ◌<◌, ◌≤◌, ◌*◌, ◌^◌, ◌/◌, ◌%◌, List, [], ◌∷◌, length, Bool, true, false, refl, sym, ap, ◌∙◌, drop, arith, zero, suc}
use Rattle.std.proofs.lemmas.Nat.{div-add-mod'}
use Rattle.std.proofs.Math.Nat.{pow-suc, pow-succ', pow-zero, div-lt_iff_lt-mul}
use Rattle.std.proofs.lemmas.Bool.Decides.{nat_tests, Decides-eqb, Decides-ltb}
use Rattle.std.specs.Prelude.{if◌then◌else◌, ◌==◌}
use Rattle.std.specs.Fmt.{digits, digits_onto, digit_glyph}
use Rattle.text_scan.specs.Numbers.{value_of, digit_value}
use Rattle.frag_tree.specs.Numerals.{hexadecimal_word, decimal_word}
use Rattle.frag_tree.specs.Validity.{is_number}

glyph_value : (d : ℕ) → d < 16 → digit_value (digit_glyph false d) ≡ d
unfolding digit_value
glyph_value d small = grind (arith, nat_tests, small)

-- a digit goes in front
carried : (base q r n power value : ℕ) → q * base + r ≡ n → q * (base * power) + (r * power + value) ≡ n * power + value
carried base q r n power value is = rw (← is) (omega arith)

onto_zero : (base n : ℕ) (acc : List ℕ) → n < base ^ 0 → value_of base acc ≡ n * base ^ length acc + value_of base acc
onto_zero base n acc small =
    let none : n ≡ 0 = omega (arith, small, pow-zero base) in
    rw none (omega arith)

zero_times : (base r : ℕ) → r ≡ 0 * base + r
zero_times base r = omega arith

onto_step : (base k n : ℕ) (acc : List ℕ) → 0 < base → base ≤ 16 → n < base ^ suc k → ((left : List ℕ) → n / base < base ^ k → value_of base (digits_onto k base false (n / base) left) ≡ (n / base) * base ^ length left + value_of base left) → (last : Bool) → (n / base == 0) ≡ last → value_of base (if last then digit_glyph false (n % base) ∷ acc else digits_onto k base false (n / base) (digit_glyph false (n % base) ∷ acc)) ≡ n * base ^ length acc + value_of base acc
unfolding value_of
onto_step base k n acc some few small others true is =
    let none : n / base ≡ 0 = (Decides-eqb (n / base) 0).0 is in
    let whole : n % base ≡ n = zero_times base (n % base) ∙ (ap (λ q. q * base + n % base) (sym none) ∙ div-add-mod' n base) in
    let low : n % base < 16 = omega arith in
    rw (glyph_value (n % base) low, whole) refl
onto_step base k n acc some few small others false is =
    let low : n % base < 16 = omega arith in
    let whole : (n / base) * base + n % base ≡ n = omega arith in
    let fewer : n / base < base ^ k = (div-lt_iff_lt-mul {k = base} {x = n} {y = base ^ k} some).1 (rw (← pow-suc base k) small) in
    others (digit_glyph false (n % base) ∷ acc) fewer
    ∙ rw (glyph_value (n % base) low, pow-succ' base (length acc)) (carried base (n / base) (n % base) n (base ^ length acc) (value_of base acc) whole)

-- the digits of a number in front of others
onto_value : (base k n : ℕ) (acc : List ℕ) → 0 < base → base ≤ 16 → n < base ^ k → value_of base (digits_onto k base false n acc) ≡ n * base ^ length acc + value_of base acc
onto_value base zero n acc some few small = onto_zero base n acc small
onto_value base (suc k) n acc some few small = onto_step base k n acc some few small (λ left fewer. onto_value base k (n / base) left some few fewer) (n / base == 0) refl

once : (number base : ℕ) → number * base ^ 0 + 0 ≡ number
once number base = rw (pow-zero base) (omega arith)

digits_value : (base number : ℕ) → 0 < base → base ≤ 16 → number < base ^ 64 → value_of base (digits base false number) ≡ number
unfolding digits value_of
digits_value base number some few small = onto_value base 64 number [] some few small ∙ once number base

below : (number : ℕ) → is_number number ≡ true → number < 2 ^ 64
below number valid = (Decides-ltb number (2 ^ 64)).0 valid

pub hexadecimal_value : (number : ℕ) → is_number number ≡ true → value_of 16 (drop 2 (hexadecimal_word number)) ≡ number
hexadecimal_value number valid =
    let small = below number valid in
    digits_value 16 number (omega arith) (omega arith) (omega (arith, small))

pub decimal_value : (number : ℕ) → is_number number ≡ true → value_of 10 (decimal_word number) ≡ number
decimal_value number valid =
    let small = below number valid in
    digits_value 10 number (omega arith) (omega arith) (omega (arith, small))
