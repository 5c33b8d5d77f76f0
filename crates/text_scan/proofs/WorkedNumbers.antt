-- Worked rows: what some digits stand for.
use Rattle.std.proofs.Common.{◌≡◌, ◌-◌, ◌^◌, Some, None, refl}
use Rattle.std.specs.Prelude.{codes}
use Rattle.text_scan.specs.declared.radix.Radix.TheVariants.{Decimal, Hexadecimal}
use Rattle.text_scan.specs.Classes.{has}
use Rattle.text_scan.specs.Numbers.{digit_value, value_of, number_of}

letters_of_both_cases : number_of Hexadecimal (codes "00aF") ≡ Some 175
unfolding has digit_value value_of number_of
letters_of_both_cases = refl

largest : number_of Decimal (codes "18446744073709551615") ≡ Some (2 ^ 64 - 1)
unfolding has digit_value value_of number_of
largest = refl

past_the_largest : number_of Decimal (codes "18446744073709551616") ≡ None
unfolding has digit_value value_of number_of
past_the_largest = refl

no_digit : number_of Decimal (codes "") ≡ None
unfolding number_of
no_digit = refl

letter_in_decimal : number_of Decimal (codes "1a") ≡ None
unfolding has number_of
letter_in_decimal = refl
