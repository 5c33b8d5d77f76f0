-- Reading digits from left to right: the reader on lists, which gives the number by places.
use Rattle.std.specs.Prelude.{ℕ, ◌+◌, ◌*◌, ◌^◌, ◌&&◌, List, [], ◌∷◌, Option, Some, None, option_and_then, nat_lt, if◌then◌else◌}
use Rattle.text_scan.specs.declared.radix.Radix.{Radix}
use Rattle.text_scan.specs.Classes.{has}
use Rattle.text_scan.specs.Numbers.{base_of, digits_of, digit_value}

-- the number with one digit more at its end, below 2^64
unfoldable pub extended_by : Radix → ℕ → ℕ → Option ℕ
extended_by radix value digit =
    if has (digits_of radix) digit && nat_lt (value * base_of radix + digit_value digit) (2 ^ 64) then Some (value * base_of radix + digit_value digit) else None

-- the number so far, with all digits put behind it
unfoldable pub reads_on : Radix → ℕ → List ℕ → Option ℕ
reads_on radix value [] = Some value
reads_on radix value (digit ∷ digits) = option_and_then (λ next. reads_on radix next digits) (extended_by radix value digit)
