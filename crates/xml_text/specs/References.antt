-- References (XML 1.0): the five named characters, and characters by their decimal or hexadecimal number.
use Rattle.std.specs.Prelude.{◌≡◌, ◌⊎◌, ℕ, Bool, true, ◌&&◌, ◌||◌, List, ◌++◌, Option, Some, None, codes, nat_le, nat_lt, if◌then◌else◌}
use Rattle.text_scan.specs.declared.radix.Radix.{Radix}
use Rattle.text_scan.specs.declared.radix.Radix.TheVariants.{Decimal, Hexadecimal}
use Rattle.text_scan.specs.Numbers.{number_of}

-- a Unicode scalar value: below 2^16 + 2^20, and no surrogate
abbrev pub is_scalar : ℕ → Bool
is_scalar number = nat_lt number 55296 || (nat_le 57344 number && nat_le number 1114111)

unfoldable pub scalar_of : ℕ → Option ℕ
scalar_of number = if is_scalar number then Some number else None

-- the five characters that have a name
pub data Named : Type 0 where
  amp : Named
  lt : Named
  gt : Named
  quot : Named
  apos : Named

abbrev pub named_scalar : Named → ℕ
named_scalar amp = 38
named_scalar lt = 60
named_scalar gt = 62
named_scalar quot = 34
named_scalar apos = 39

unfoldable pub spelled_of : Named → List ℕ
spelled_of amp = codes "&amp;"
spelled_of lt = codes "&lt;"
spelled_of gt = codes "&gt;"
spelled_of quot = codes "&quot;"
spelled_of apos = codes "&apos;"

pub record IsNamed (scalar : ℕ) (text rest : List ℕ) : Type 0 where
  pub name : Named
  pub whole : text ≡ spelled_of name ++ rest
  pub means : scalar ≡ named_scalar name

-- what stands before the digits
unfoldable pub opener_of : Radix → List ℕ
opener_of Decimal = codes "&#"
opener_of Hexadecimal = codes "&#x"

-- a scalar value by its number
pub record IsNumbered (scalar : ℕ) (text rest : List ℕ) : Type 0 where
  pub radix : Radix
  pub digits : List ℕ
  pub whole : text ≡ opener_of radix ++ (digits ++ (codes ";" ++ rest))
  pub number : number_of radix digits ≡ Some scalar
  pub form : is_scalar scalar ≡ true

-- `IsReference scalar text rest`: the text is a reference to the character, and then the rest
abbrev pub IsReference : ℕ → List ℕ → List ℕ → Type 0
IsReference scalar text rest = IsNamed scalar text rest ⊎ IsNumbered scalar text rest
