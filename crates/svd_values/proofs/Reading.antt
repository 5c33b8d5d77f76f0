-- Digits are read one by one: what one more digit does, and that nothing brings a value back below 2^64.
use Rattle.std.proofs.Common.{◌≡◌, ◌≢◌, ◌⊎◌, ℕ, suc, ◌+◌, ◌*◌, ◌^◌, ◌<◌, ◌≤◌, List, [], ◌∷◌, length, drop, get_or, Bool, true, false, refl, arith, Some, None, ⊎_elim, add-one, nat_lt, ◌==◌}
use Rattle.std.proofs.lemmas.Bool.Decides.{nat_tests}
use Rattle.std.proofs.Math.Nat.{mul-le-mul_left}
use Rattle.std.specs.Prelude.{if◌then◌else◌}
use Rattle.svd_values.specs.declared.numeral.Digits.TheVariants.{Decimal, Hexadecimal, Binary, BinaryOrAny}
use Rattle.std.proofs.Math.Seq.{drop-cons}
use Rattle.std.proofs.lemmas.List.{drop_all, nil_from_length}
use Rattle.svd_values.specs.declared.numeral.Digits.{Digits}
use Rattle.svd_values.specs.Numbers.{base_of, digit_of, is_digit}
use Rattle.svd_values.specs.Readers.{read_on, bounded, read_digits}

pub no_digits : (digits : Digits) (text : List ℕ) → text ≡ [] → None ≡ bounded (read_digits digits text)
unfolding bounded read_digits
no_digits digits text none = rw none refl

zero_test : (n : ℕ) → (n == 0) ≡ true → n ≡ 0
zero_test n h = grind (arith, nat_tests)

pub is_none : (text : List ℕ) → (length text == 0) ≡ true → text ≡ []
is_none text h = nil_from_length text (zero_test (length text) h)

pub is_some : (text : List ℕ) → (length text == 0) ≡ false → text ≢ []
is_some [] h = cc
is_some (byte ∷ text) h = λ e. cc

pub some_digits : (digits : Digits) (text : List ℕ) → text ≢ [] → read_digits digits text ≡ read_on digits 0 text
unfolding read_digits
some_digits digits [] some = absurd (some refl)
some_digits digits (byte ∷ text) some = refl

false_test : (a b : ℕ) → b ≤ a → nat_lt a b ≡ false
false_test a b h = grind (arith, nat_tests)

true_test : (a b : ℕ) → a < b → nat_lt a b ≡ true
true_test a b h = grind (arith, nat_tests)

at_least : (value : ℕ) → 2 ^ 64 ≤ value → nat_lt value (2 ^ 64) ≡ false
at_least value h = grind (arith, nat_tests)

no_digit : (digits : Digits) (byte : ℕ) → base_of digits ≤ digit_of digits byte → is_digit digits byte ≡ false
no_digit digits byte h = false_test (digit_of digits byte) (base_of digits) h

a_digit : (digits : Digits) (byte : ℕ) → digit_of digits byte < base_of digits → is_digit digits byte ≡ true
a_digit digits byte h = true_test (digit_of digits byte) (base_of digits) h

some_base : (digits : Digits) → 1 ≤ base_of digits
some_base Decimal = omega arith
some_base Hexadecimal = omega arith
some_base Binary = omega arith
some_base BinaryOrAny = omega arith

still_great : (value base digit : ℕ) → 1 ≤ base → 2 ^ 64 ≤ value → 2 ^ 64 ≤ value * base + digit
still_great value base digit some h = omega (arith, mul-le-mul_left value some)

next_none : (digits : Digits) (value byte : ℕ) (text : List ℕ) (is : Bool) → None ≡ bounded (read_on digits (value * base_of digits + digit_of digits byte) text)
    → None ≡ bounded (if is then read_on digits (value * base_of digits + digit_of digits byte) text else None)
unfolding bounded
next_none digits value byte text true h = h
next_none digits value byte text false h = refl

-- a value of 2^64 or above stays so
too_great : (digits : Digits) (value : ℕ) (text : List ℕ) → 2 ^ 64 ≤ value → None ≡ bounded (read_on digits value text)
unfolding bounded read_on
too_great digits value [] h = rw (at_least value h) refl
too_great digits value (byte ∷ text) h =
    next_none digits value byte text (is_digit digits byte) (too_great digits (value * base_of digits + digit_of digits byte) text (still_great value (base_of digits) (digit_of digits byte) (some_base digits) h))

pub digit_stops : (digits : Digits) (value : ℕ) (text : List ℕ) (at : ℕ) → at < length text → (base_of digits ≤ digit_of digits (get_or text at 0)) ⊎ (2 ^ 64 ≤ value * base_of digits + digit_of digits (get_or text at 0))
    → None ≡ bounded (read_on digits value (drop at text))
unfolding bounded read_on
digit_stops digits value text at within why =
    rw (drop-cons text at 0 within)
    (⊎_elim (λ over. rw (no_digit digits (get_or text at 0) over) refl)
    (λ great. next_none digits value (get_or text at 0) (drop (suc at) text) (is_digit digits (get_or text at 0)) (too_great digits (value * base_of digits + digit_of digits (get_or text at 0)) (drop (suc at) text) great)) why)

pub digit_goes : (digits : Digits) (value next : ℕ) (text : List ℕ) (at : ℕ) → at < length text → digit_of digits (get_or text at 0) < base_of digits → next ≡ value * base_of digits + digit_of digits (get_or text at 0)
    → read_on digits next (drop (at + 1) text) ≡ read_on digits value (drop at text)
unfolding read_on
digit_goes digits value next text at within is sum = rw (drop-cons text at 0 within, a_digit digits (get_or text at 0) is, add-one, sum) refl

pub digits_end : (digits : Digits) (value : ℕ) (text : List ℕ) (at : ℕ) → length text ≤ at → value < 2 ^ 64 → Some value ≡ bounded (read_on digits value (drop at text))
unfolding bounded read_on
digits_end digits value text at past below = rw (drop_all at text past, true_test value (2 ^ 64) below) refl
