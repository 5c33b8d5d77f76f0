-- Which bytes a class has. White space is that of XML 1.0; a name is an upper-case letter followed by name bytes.
use Rattle.std.specs.Prelude.{ℕ, Bool, not, ◌&&◌, ◌||◌, nat_le, ◌==◌}
use Rattle.text_scan.specs.declared.class.Class.{Class}
use Rattle.text_scan.specs.declared.class.Class.TheVariants.{Blank, Digit, HexDigit, Upper, NameByte, Content}

abbrev pub is_between : ℕ → ℕ → ℕ → Bool
is_between low high byte = nat_le low byte && nat_le byte high

-- space, tab, carriage return, line feed
abbrev pub is_blank : ℕ → Bool
is_blank byte = (byte == 32) || (byte == 9) || (byte == 13) || (byte == 10)

-- 0 to 9, A to F, a to f
abbrev pub is_hex_digit : ℕ → Bool
is_hex_digit byte = is_between 48 57 byte || is_between 65 70 byte || is_between 97 102 byte

-- A to Z, 0 to 9, and the underscore
abbrev pub is_name_byte : ℕ → Bool
is_name_byte byte = is_between 65 90 byte || is_between 48 57 byte || (byte == 95)

-- whether a byte is of a class
unfoldable pub has : Class → ℕ → Bool
has Blank byte = is_blank byte
has Digit byte = is_between 48 57 byte
has HexDigit byte = is_hex_digit byte
has Upper byte = is_between 65 90 byte
has NameByte byte = is_name_byte byte
has Content byte = not (byte == 60)
