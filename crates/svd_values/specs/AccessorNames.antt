-- How the elements of a description are named in a generated crate (this project's own rule, after
-- the names that svd2rust gives).
use Rattle.std.specs.Prelude.{◌≢◌, ◌⊎◌, ℕ, ◌-◌, List, [], ◌∷◌, ◌++◌, length, take, drop, map, Bool, ◌||◌, if◌then◌else◌, nat_eq, codes}
use Rattle.std.specs.Char.{is_ascii_digit}
use Rattle.std.specs.Str.{bytes_eq, str_to_ascii_lowercase}
use Rattle.std.specs.List.{starts_with}
use Rattle.pac_base.specs.Names.{IsWord, IsListName, is_word_byte, array_mark}
use Rattle.rust_names.specs.Keywords.{is_keyword}
use Rattle.rust_names.specs.PreludeNames.{is_prelude_name}

-- the name without `[%s]` at its end
abbrev pub without_array_mark : List ℕ → List ℕ
without_array_mark name = if bytes_eq (drop (length name - 4) name) array_mark then take (length name - 4) name else name

-- `_` before a leading digit
abbrev pub digit_guard : List ℕ → List ℕ
digit_guard [] = []
digit_guard (byte ∷ bytes) = if is_ascii_digit byte then codes "_" else []

abbrev pub guarded : List ℕ → List ℕ
guarded name = digit_guard name ++ name

-- `_` behind a name that is taken
abbrev pub taken_guard : Bool → List ℕ
taken_guard taken = if taken then codes "_" else []

-- no call may have the name: a keyword, a name of the prelude, `_`, or what begins with `_reserved`
abbrev pub is_taken_call : List ℕ → Bool
is_taken_call name = is_keyword name || is_prelude_name name || bytes_eq name (codes "_") || starts_with nat_eq name (codes "_reserved")

-- no slot may have the name: a keyword, `Self` among them, or `_`
abbrev pub is_taken_slot : List ℕ → Bool
is_taken_slot name = is_keyword name || bytes_eq name (codes "_")

-- the name of a call, from its bytes in lower case
abbrev pub call_name : List ℕ → List ℕ
call_name lower = guarded lower ++ taken_guard (is_taken_call (guarded lower))

-- the accessor of an element: its name without `[%s]`, in lower case
abbrev pub accessor_name : List ℕ → List ℕ
accessor_name name = call_name (str_to_ascii_lowercase (without_array_mark name))

-- the slot of a peripheral: its name as written
abbrev pub slot_name_of : List ℕ → List ℕ
slot_name_of name = guarded name ++ taken_guard (is_taken_slot (guarded name))

-- each byte that is no letter, digit or `_` becomes `_`
abbrev pub plain_byte : ℕ → ℕ
plain_byte byte = if is_word_byte byte then byte else 95

-- the name of an enumerated value in letters, digits and `_`, in lower case
abbrev pub plain_lower : List ℕ → List ℕ
plain_lower text = str_to_ascii_lowercase (map plain_byte text)

-- the call that writes an enumerated value
abbrev pub variant_call_name : List ℕ → List ℕ
variant_call_name text = call_name (plain_lower text)

-- the call that tells whether an enumerated value was read
abbrev pub is_call_name : List ℕ → List ℕ
is_call_name text = codes "is_" ++ plain_lower text

-- a name without the mark of an array
abbrev pub IsPlainName : List ℕ → Type 0
IsPlainName name = ((name ≢ []) × IsWord name) ⊎ IsListName name
