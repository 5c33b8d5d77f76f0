-- Numbers by their digits: the sum of each digit times the base to the power of its place from the end.
use Rattle.std.specs.Prelude.{ℕ, Bool, false, ◌&&◌, ◌+◌, ◌-◌, ◌*◌, ◌^◌, List, [], ◌∷◌, length, Option, Some, None, nat_le, nat_lt, if◌then◌else◌}
use Rattle.std.specs.List.{list_all}
use Rattle.text_scan.specs.declared.class.Class.{Class}
use Rattle.text_scan.specs.declared.class.Class.TheVariants.{Digit, HexDigit}
use Rattle.text_scan.specs.declared.radix.Radix.{Radix}
use Rattle.text_scan.specs.declared.radix.Radix.TheVariants.{Decimal, Hexadecimal}
use Rattle.text_scan.specs.Classes.{has}

abbrev pub base_of : Radix → ℕ
base_of Decimal = 10
base_of Hexadecimal = 16

abbrev pub digits_of : Radix → Class
digits_of Decimal = Digit
digits_of Hexadecimal = HexDigit

-- what a digit is worth: 0 to 9, A to F and a to f stand for 0 to 15
unfoldable pub digit_value : ℕ → ℕ
digit_value byte = if nat_le byte 57 then byte - 48 else (if nat_le byte 70 then byte - 55 else byte - 87)

-- the number that the digits stand for, however large
unfoldable pub value_of : ℕ → List ℕ → ℕ
value_of base [] = 0
value_of base (digit ∷ digits) = digit_value digit * base ^ length digits + value_of base digits

-- one digit or more, and nothing else
abbrev pub are_digits : Radix → List ℕ → Bool
are_digits radix [] = false
are_digits radix (digit ∷ digits) = list_all (has (digits_of radix)) (digit ∷ digits)

-- the number that the digits stand for, where they are digits and it is below 2^64
unfoldable pub number_of : Radix → List ℕ → Option ℕ
number_of radix digits = if are_digits radix digits && nat_lt (value_of (base_of radix) digits) (2 ^ 64) then Some (value_of (base_of radix) digits) else None
