-- Whole numbers as a description writes them (CMSIS-SVD 1.3, scaledNonNegativeInteger without its
-- scale letters): an optional `+`, then decimal digits, or `0x` or `0X` and hexadecimal digits, or
-- `#`, `0b` or `0B` and binary digits.
use Rattle.std.specs.Prelude.{◌≡◌, ◌≢◌, ◌⊎◌, ℕ, ◌+◌, ◌*◌, ◌^◌, List, [], ◌∷◌, ◌++◌, length, map, Bool, nat_lt, ◌==◌, ◌||◌, if◌then◌else◌, IsTrue, codes}
use Rattle.std.specs.List.{list_all}
use Rattle.std.specs.Char.{digit_value}
use Rattle.svd_values.specs.declared.numeral.Digits.{Digits}
use Rattle.svd_values.specs.declared.numeral.Digits.TheVariants.{Decimal, Hexadecimal, Binary, BinaryOrAny}

-- how many values a digit has
abbrev pub base_of : Digits → ℕ
base_of Decimal = 10
base_of Hexadecimal = 16
base_of Binary = 2
base_of BinaryOrAny = 2

-- what a byte counts as a digit: `0` to `9`, and from ten on letters of either case. A byte that is
-- no digit counts more than any base. Where any bit will do, `x` and `X` count as 0.
abbrev pub digit_of : Digits → ℕ → ℕ
digit_of Decimal byte = digit_value byte
digit_of Hexadecimal byte = digit_value byte
digit_of Binary byte = digit_value byte
digit_of BinaryOrAny byte = if byte == 120 || byte == 88 then 0 else digit_value byte

abbrev pub is_digit : Digits → ℕ → Bool
is_digit digits byte = nat_lt (digit_of digits byte) (base_of digits)

-- the sum of digit × base ^ position, where the last digit has position 0
unfoldable pub sum_of : ℕ → List ℕ → ℕ
sum_of base [] = 0
sum_of base (digit ∷ digits) = digit * base ^ length digits + sum_of base digits

-- the text is one or more digits, and the value is their sum by positions
pub record IsWritten (digits : Digits) (text : List ℕ) (value : ℕ) : Type 0 where
  pub some : text ≢ []
  pub each : IsTrue (list_all (is_digit digits) text)
  pub sum : value ≡ sum_of (base_of digits) (map (digit_of digits) text)

-- the text is a mark and digits behind it
pub record IsMarked (mark : List ℕ) (digits : Digits) (text : List ℕ) (value : ℕ) : Type 0 where
  pub behind : List ℕ
  pub whole : text ≡ mark ++ behind
  pub written : IsWritten digits behind value

-- a number without sign; `binary` says which bytes are its binary digits
pub data IsUnsigned (binary : Digits) (text : List ℕ) (value : ℕ) : Type 0 where
  decimal : IsWritten Decimal text value → IsUnsigned binary text value
  hexadecimal : IsMarked (codes "0x") Hexadecimal text value ⊎ IsMarked (codes "0X") Hexadecimal text value → IsUnsigned binary text value
  bits : IsMarked (codes "#") binary text value ⊎ (IsMarked (codes "0b") binary text value ⊎ IsMarked (codes "0B") binary text value) → IsUnsigned binary text value

-- a number with `+` before it
pub record IsSigned (binary : Digits) (text : List ℕ) (value : ℕ) : Type 0 where
  pub behind : List ℕ
  pub whole : text ≡ codes "+" ++ behind
  pub number : IsUnsigned binary behind value

-- the text is a number of that value
abbrev pub IsNumber : Digits → List ℕ → ℕ → Type 0
IsNumber binary text value = IsUnsigned binary text value ⊎ IsSigned binary text value

-- the text is a whole number of a description
abbrev pub IsWholeNumber : List ℕ → ℕ → Type 0
IsWholeNumber text value = IsNumber Binary text value

-- the text is the value of an enumerated value, in whose binary digits `x` and `X` count as 0
abbrev pub IsValueBits : List ℕ → ℕ → Type 0
IsValueBits text value = IsNumber BinaryOrAny text value
