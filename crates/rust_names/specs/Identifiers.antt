-- The names of crate texts and scripts (Rust's identifiers, without letters beyond ASCII and without raw identifiers).
use Rattle.std.specs.Prelude.{ℕ, List, [], ◌∷◌, Bool, false, ◌||◌, ◌&&◌, ◌==◌, not, nat_le, codes, IsTrue}
use Rattle.std.specs.List.{list_all}
use Rattle.std.specs.Str.{bytes_eq}
use Rattle.pac_base.specs.Names.{is_word_byte}
use Rattle.rust_names.specs.Keywords.{is_keyword}

-- a letter or `_`
abbrev pub is_start : ℕ → Bool
is_start byte = (nat_le 65 byte && nat_le byte 90) || (nat_le 97 byte && nat_le byte 122) || (byte == 95)

-- A letter or `_`, then letters, digits and `_`; neither `_` alone nor a keyword.
abbrev pub is_identifier : List ℕ → Bool
is_identifier [] = false
is_identifier (first ∷ others) =
    is_start first && list_all is_word_byte others && not (bytes_eq (first ∷ others) (codes "_")) && not (is_keyword (first ∷ others))

abbrev pub IsIdentifier : List ℕ → Type 0
IsIdentifier word = IsTrue (is_identifier word)
