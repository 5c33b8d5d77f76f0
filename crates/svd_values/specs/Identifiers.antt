-- What the names of a generated crate are: identifiers of Rust, of which no call has a name of the prelude or of a gap between the fields of a struct.
use Rattle.std.specs.Prelude.{ℕ, ◌≡◌, ◌≢◌, List, [], ◌∷◌, ◌++◌, Bool, false, ◌||◌, ◌&&◌, ◌==◌, not, nat_le, codes, decimal, IsTrue}
use Rattle.std.specs.List.{list_all}
use Rattle.std.specs.Str.{bytes_eq}
use Rattle.pac_base.specs.Names.{IsWord, is_word_byte}
use Rattle.svd_values.specs.AccessorNames.{accessor_name, guarded, is_call_name, slot_name_of, variant_call_name, without_array_mark}
use Rattle.rust_names.specs.Identifiers.{IsIdentifier}
use Rattle.rust_names.specs.PreludeNames.{is_prelude_name}

-- some letters, digits and `_`
abbrev pub IsSomeWord : List ℕ → Type 0
IsSomeWord word = IsWord word × (word ≢ [])

-- the name of a gap, `_reservedN`
abbrev pub gap_name : ℕ → List ℕ
gap_name number = codes "_reserved" ++ decimal number

-- the marker of a field with this name: with `_` before a leading digit, and `_F` behind it
abbrev pub marker_name : List ℕ → List ℕ
marker_name name = guarded name ++ codes "_F"

-- What a call of a generated crate may be named.
pub record IsCallName (name : List ℕ) : Type 0 where
  pub identifier : IsIdentifier name
  pub free : is_prelude_name name ≡ false
  pub no_gap : (number : ℕ) → bytes_eq name (gap_name number) ≡ false

-- ---- laws

-- The accessor of a name without `%s` but for `[%s]` at its end may be a call's name; so may the calls of enumerated values.
abbrev pub AccessorsAreCallNames : Type 0
AccessorsAreCallNames = (name : List ℕ) → IsSomeWord (without_array_mark name) → IsCallName (accessor_name name)

abbrev pub VariantsAreCallNames : Type 0
VariantsAreCallNames = (text : List ℕ) → text ≢ [] → IsCallName (variant_call_name text)

abbrev pub TestsAreCallNames : Type 0
TestsAreCallNames = (text : List ℕ) → IsCallName (is_call_name text)

-- Slots and markers are identifiers.
abbrev pub SlotsAreIdentifiers : Type 0
SlotsAreIdentifiers = (name : List ℕ) → IsSomeWord name → IsIdentifier (slot_name_of name)

abbrev pub MarkersAreIdentifiers : Type 0
MarkersAreIdentifiers = (name : List ℕ) → IsSomeWord name → IsIdentifier (marker_name name)

-- Fields of one marker have one accessor: so where accessors are distinct, markers are.
abbrev pub MarkersTell : Type 0
MarkersTell = (one other : List ℕ) → marker_name (without_array_mark one) ≡ marker_name (without_array_mark other) → accessor_name one ≡ accessor_name other
