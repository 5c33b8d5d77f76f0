-- The words of scripts, in which a number is told by its value (this project's own rule, after the integer literals of Rust).
use Rattle.std.specs.Prelude.{ℕ, List, [], ◌∷◌, Bool, true, false, not, ◌==◌, map, Option, Some, None, codes, if◌then◌else◌}
use Rattle.std.specs.List.{filter, list_all, slice_split}
use Rattle.text_scan.specs.declared.radix.Radix.{Radix}
use Rattle.text_scan.specs.declared.radix.Radix.TheVariants.{Decimal, Hexadecimal}
use Rattle.text_scan.specs.Fronts.{stripped_of}
use Rattle.text_scan.specs.Numbers.{number_of}
use Rattle.frag_words.specs.Words.{Word, words_in}

abbrev pub is_underscore : ℕ → Bool
is_underscore byte = byte == 95

abbrev pub is_some_byte : List ℕ → Bool
is_some_byte [] = false
is_some_byte (byte ∷ bytes) = true

-- `_` stands between bytes: the groups that it parts have at least one byte each
unfoldable pub is_grouped : List ℕ → Bool
is_grouped text = list_all is_some_byte (slice_split is_underscore text)

-- the number below 2^64 that digits stand for, with `_` between them
unfoldable pub grouped_number : Radix → List ℕ → Option ℕ
grouped_number radix text = if is_grouped text then number_of radix (filter (λ byte. not (is_underscore byte)) text) else None

abbrev pub number_behind : Option (List ℕ) → Word → Option ℕ
number_behind (Some digits) word = grouped_number Hexadecimal digits
number_behind None word = grouped_number Decimal word

-- the number that a word stands for: decimal digits, or `0x` and hexadecimal digits of either case
unfoldable pub number_in : Word → Option ℕ
number_in word = number_behind (stripped_of (codes "0x") word) word

-- a number, or any other word
pub data Token : Type 0 where
  number : ℕ → Token
  plain : Word → Token

abbrev pub told : Option ℕ → Word → Token
told (Some value) word = number value
told None word = plain word

unfoldable pub token_of : Word → Token
token_of word = told (number_in word) word

-- the tokens of a text
unfoldable pub tokens_in : List ℕ → List Token
tokens_in text = map token_of (words_in text)
