-- The names of peripherals, clusters, registers and fields as a description writes them
-- (CMSIS-SVD 1.3: dimableIdentifierType, with the marks `%s` and `[%s]`).
use Rattle.std.specs.Prelude.{◌≡◌, ◌≢◌, ◌⊎◌, ◌++◌, ◌∷◌, [], List, ℕ, Bool, true, ◌||◌, ◌&&◌, ◌==◌, nat_le, not, if◌then◌else◌, take, drop}
use Rattle.std.specs.List.{list_all}
use Rattle.std.specs.Str.{bytes_eq}

-- a letter, a digit or `_`
abbrev pub is_word_byte : ℕ → Bool
is_word_byte byte = (nat_le 65 byte && nat_le byte 90) || (nat_le 97 byte && nat_le byte 122) || (nat_le 48 byte && nat_le byte 57) || (byte == 95)

-- letters, digits and `_` alone
abbrev pub IsWord : List ℕ → Type 0
IsWord bytes = list_all is_word_byte bytes ≡ true

-- the mark of a list, `%s`
abbrev pub list_mark : List ℕ
list_mark = 37 ∷ 115 ∷ []

-- the mark of an array, `[%s]`
abbrev pub array_mark : List ℕ
array_mark = 91 ∷ 37 ∷ 115 ∷ 93 ∷ []

-- a word with one `%s` in it
pub record IsListName (bytes : List ℕ) : Type 0 where
  pub before : List ℕ
  pub after : List ℕ
  pub begins : IsWord before
  pub ends : IsWord after
  pub whole : bytes ≡ before ++ (list_mark ++ after)

-- a word of at least one byte, and then `[%s]`
pub record IsArrayName (bytes : List ℕ) : Type 0 where
  pub before : List ℕ
  pub begins : IsWord before
  pub some : before ≢ []
  pub whole : bytes ≡ before ++ array_mark

-- a name is a word of at least one byte, and has at most one `%s` in it, or `[%s]` behind it
abbrev pub IsName : List ℕ → Type 0
IsName bytes = ((bytes ≢ []) × IsWord bytes) ⊎ (IsListName bytes ⊎ IsArrayName bytes)

-- Whether a name may end as `rest` behind the longest front of word bytes: nothing or `[%s]` behind
-- at least one byte, or `%s` and word bytes.
abbrev pub ends_name : List ℕ → List ℕ → Bool
ends_name word rest = if bytes_eq rest [] || bytes_eq rest array_mark then not (bytes_eq word []) else (bytes_eq (take 2 rest) list_mark && list_all is_word_byte (drop 2 rest))
