-- Reading digits from the left, with the number so far, gives the number by places.
use Rattle.std.proofs.Common.{◌≡◌, ℕ, ◌+◌, ◌*◌, ◌^◌, ◌<◌, ◌≤◌, false, ◌&&◌, cond, eqb, ltb, List, [], ◌∷◌, length, Option, Some, None, refl, sym, ap, ◌∙◌, ◌⊎◌, inl, inr, arith}
use Rattle.std.specs.List.{list_all}
use Rattle.std.proofs.Math.Nat.{pow-zero, pow-suc, one-le-pow, le-mul_of_pos_right}
use Rattle.std.proofs.lemmas.Bool.{cases_Bool, eqb-false, ltb-true, ltb-false, lt-ltb, le-ltb, and_parts, and_right}
use Rattle.std.proofs.lemmas.Option.{cond_some}
use Rattle.text_scan.specs.declared.radix.Radix.{Radix}
use Rattle.text_scan.specs.declared.radix.Radix.TheVariants.{Decimal, Hexadecimal}
use Rattle.text_scan.specs.Classes.{has}
use Rattle.text_scan.specs.Numbers.{base_of, digits_of, digit_value, value_of, number_of}
use Rattle.text_scan.specs.Reading.{extended_by, reads_on}

-- what the digits make behind a number read so far
unfoldable pub total : Radix → ℕ → List ℕ → ℕ
total radix so_far digits = so_far * base_of radix ^ length digits + value_of (base_of radix) digits

-- that number, where they are digits and it is below 2^64
unfoldable pub read_on : Radix → ℕ → List ℕ → Option ℕ
read_on radix so_far digits = cond (list_all (has (digits_of radix)) digits && ltb (total radix so_far digits) (2 ^ 64)) (Some (total radix so_far digits)) None

base_pos : (radix : Radix) → 0 < base_of radix
base_pos Decimal = omega arith
base_pos Hexadecimal = omega arith

regrouped : (so_far base digit power rest : ℕ) → so_far * (power * base) + (digit * power + rest) ≡ (so_far * base + digit) * power + rest
regrouped so_far base digit power rest = omega arith

-- one digit goes over into the number so far
total-cons : (radix : Radix) (so_far digit : ℕ) (digits : List ℕ) → total radix so_far (digit ∷ digits) ≡ total radix (so_far * base_of radix + digit_value digit) digits
unfolding total value_of
total-cons radix so_far digit digits =
    ap (λ (power : ℕ). so_far * power + (digit_value digit * base_of radix ^ length digits + value_of (base_of radix) digits)) (pow-suc (base_of radix) (length digits))
    ∙ regrouped so_far (base_of radix) (digit_value digit) (base_of radix ^ length digits) (value_of (base_of radix) digits)

total_grows : (radix : Radix) (so_far : ℕ) (digits : List ℕ) → so_far ≤ total radix so_far digits
unfolding total
total_grows radix so_far digits =
    let power = one-le-pow (length digits) (base_of radix) (base_pos radix) in
    let grown : so_far ≤ so_far * base_of radix ^ length digits = le-mul_of_pos_right so_far power in
    omega arith

total-nil : (radix : Radix) (so_far : ℕ) → total radix so_far [] ≡ so_far
unfolding total value_of
total-nil radix so_far = rw (pow-zero (base_of radix)) (omega arith)

total-zero : (radix : Radix) (digits : List ℕ) → total radix 0 digits ≡ value_of (base_of radix) digits
unfolding total
total-zero radix digits = omega arith

pub read_on-nil : (radix : Radix) (so_far : ℕ) → so_far < 2 ^ 64 → read_on radix so_far [] ≡ Some so_far
unfolding read_on
read_on-nil radix so_far lt = rw (total-nil radix so_far, lt-ltb so_far (2 ^ 64) lt) refl

pub read_on-some : (radix : Radix) (so_far digit : ℕ) (digits : List ℕ) (next : ℕ) → extended_by radix so_far digit ≡ Some next → read_on radix so_far (digit ∷ digits) ≡ read_on radix next digits
unfolding read_on extended_by
read_on-some radix so_far digit digits next e =
    let x = so_far * base_of radix + digit_value digit in
    let made = cond_some (has (digits_of radix) digit && ltb x (2 ^ 64)) x next e in
    let parts = and_parts (has (digits_of radix) digit) (ltb x (2 ^ 64)) made.0 in
    rw (total-cons radix so_far digit digits, parts.0, made.1) refl

pub read_on-none : (radix : Radix) (so_far digit : ℕ) (digits : List ℕ) → extended_by radix so_far digit ≡ None → read_on radix so_far (digit ∷ digits) ≡ None
unfolding read_on extended_by
read_on-none radix so_far digit digits e =
    elim (cases_Bool (has (digits_of radix) digit)) [
      | inl is_digit ↦ elim (cases_Bool (ltb (so_far * base_of radix + digit_value digit) (2 ^ 64))) [
        | inl below ↦ absurd (let made : Some (so_far * base_of radix + digit_value digit) ≡ None = rw (is_digit, below) at e in cc)
        | inr above ↦
            let large : 2 ^ 64 ≤ total radix (so_far * base_of radix + digit_value digit) digits = omega (arith, ltb-false _ _ above, total_grows radix (so_far * base_of radix + digit_value digit) digits) in
            let past : ltb (total radix (so_far * base_of radix + digit_value digit) digits) (2 ^ 64) ≡ false = le-ltb _ _ large in
            rw (total-cons radix so_far digit digits, past, and_right (has (digits_of radix) digit && list_all (has (digits_of radix)) digits) false refl) refl
      ]
      | inr other ↦ rw (other) refl
    ]

pub number-read_on : (radix : Radix) (digit : ℕ) (digits : List ℕ) → number_of radix (digit ∷ digits) ≡ read_on radix 0 (digit ∷ digits)
unfolding read_on number_of
number-read_on radix digit digits = rw (total-zero radix (digit ∷ digits)) refl

cases_option : (o : Option ℕ) → (o ≡ None) ⊎ ((x : ℕ) × (o ≡ Some x))
cases_option None = inl refl
cases_option (Some x) = inr (x, refl)

extended_below : (radix : Radix) (so_far digit next : ℕ) → extended_by radix so_far digit ≡ Some next → next < 2 ^ 64
unfolding extended_by
extended_below radix so_far digit next e =
    let x = so_far * base_of radix + digit_value digit in
    let made = cond_some (has (digits_of radix) digit && ltb x (2 ^ 64)) x next e in
    let parts = and_parts (has (digits_of radix) digit) (ltb x (2 ^ 64)) made.0 in
    omega (arith, ltb-true x (2 ^ 64) parts.1, made.1)

-- the reader on lists gives the number by places
pub reads_on-read_on : (radix : Radix) (so_far : ℕ) (digits : List ℕ) → so_far < 2 ^ 64 → reads_on radix so_far digits ≡ read_on radix so_far digits
unfolding reads_on
reads_on-read_on radix so_far [] lt = sym (read_on-nil radix so_far lt)
reads_on-read_on radix so_far (digit ∷ digits) lt =
    elim (cases_option (extended_by radix so_far digit)) [
      | inl e ↦ rw (e) (sym (read_on-none radix so_far digit digits e))
      | inr e ↦ rw (e.1) (reads_on-read_on radix e.0 digits (extended_below radix so_far digit e.0 e.1) ∙ sym (read_on-some radix so_far digit digits e.0 e.1))
    ]

pub number-nil : (radix : Radix) → number_of radix [] ≡ None
unfolding number_of
number-nil radix = refl

pub reads_on-number : (radix : Radix) (digits : List ℕ) → eqb (length digits) 0 ≡ false → reads_on radix 0 digits ≡ number_of radix digits
reads_on-number radix [] some = absurd (eqb-false 0 0 some refl)
reads_on-number radix (digit ∷ digits) some = reads_on-read_on radix 0 (digit ∷ digits) (omega arith) ∙ sym (number-read_on radix digit digits)

pub number-empty : (radix : Radix) (digits : List ℕ) → length digits ≡ 0 → number_of radix digits ≡ None
number-empty radix [] e = number-nil radix
number-empty radix (digit ∷ digits) e = absurd (omega arith)
