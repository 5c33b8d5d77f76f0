-- The bytes of patterns: those that stand for themselves, and the spaces round an alternative (this project's own rule).
use Rattle.std.specs.Prelude.{ℕ, Bool, ◌||◌, ◌&&◌, ◌==◌, nat_le, List}
use Rattle.text_scan.specs.Fronts.{Passes, rest_of}

-- a letter, a digit, `_` or `%`
abbrev pub is_name_byte : ℕ → Bool
is_name_byte byte = (nat_le 65 byte && nat_le byte 90) || (nat_le 97 byte && nat_le byte 122) || (nat_le 48 byte && nat_le byte 57) || (byte == 95) || (byte == 37)

abbrev pub is_space : ℕ → Bool
is_space byte = byte == 32

abbrev pub AreSpaces : List ℕ → Type 0
AreSpaces text = Passes is_space text

-- the text without the spaces at its front
unfoldable pub after_spaces : List ℕ → List ℕ
after_spaces text = rest_of is_space text
