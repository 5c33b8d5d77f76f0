-- The forms of the values of keys (CMSIS-SVD 1.3, as in descriptions).
use Rattle.std.specs.Prelude.{◌≡◌, ◌<◌, ◌≤◌, ◌^◌, ℕ, Bool, true, not, ◌&&◌, nat_le, List, [], ◌∷◌, ◌++◌, length, reverse, Option, Some, None, ◌==◌, if◌then◌else◌}
use Rattle.std.specs.List.{list_all, count_by, flat_map}
use Rattle.glob_select.specs.Items.{Item}
use Rattle.glob_select.specs.Naming.{is_open, plain_text}
use Rattle.glob_select.specs.Spelling.{SpellsPattern}
use Rattle.pac_base.specs.Names.{IsName, list_mark, array_mark}
use Rattle.svd_values.specs.Indexes.{IsIndex}
use Rattle.svd_values.specs.Numbers.{IsWholeNumber}
use Rattle.svd_values.specs.Places.{IsPlace}
use Rattle.svd_values.specs.SchemaWords.{access_text, write_kind_text, read_action_text}
use Rattle.svd_values.specs.declared.index.DimIndex.{DimIndex}
use Rattle.svd_values.specs.declared.place.Place.{Place}
use Rattle.svd_values.specs.declared.schema_word.Access.{Access as AccessOf}
use Rattle.svd_values.specs.declared.schema_word.WriteKind.{WriteKind as WriteKindOf}
use Rattle.svd_values.specs.declared.schema_word.ReadAction.{ReadAction as ReadActionOf}
use Rattle.text_scan.specs.Classes.{is_blank}
use Rattle.text_scan.specs.Fronts.{rest_of}
use Rattle.patch_form.specs.declared.form.Form.{Form}
use Rattle.patch_form.specs.declared.form.Form.TheVariants.{Number, Range, Access, WriteKind, ReadAction, Index, Name, NamePath, DeviceName}

-- a text without the white space at its two ends
unfoldable pub trimmed : List ℕ → List ℕ
trimmed text = reverse (rest_of is_blank (reverse (rest_of is_blank text)))

abbrev pub put : ℕ → List (List ℕ) → List (List ℕ)
put byte [] = (byte ∷ []) ∷ []
put byte (part ∷ parts) = (byte ∷ part) ∷ parts

-- the parts of a text between its dots
unfoldable pub dotted_parts : List ℕ → List (List ℕ)
dotted_parts [] = [] ∷ []
dotted_parts (byte ∷ text) = if byte == 46 then [] ∷ dotted_parts text else put byte (dotted_parts text)

-- the parts of a text that may be missing
abbrev pub parts_left : Option (List ℕ) → List (List ℕ)
parts_left None = []
parts_left (Some text) = dotted_parts text

abbrev pub IsNumberText : List ℕ → ℕ → Type 0
IsNumberText text value = IsWholeNumber text value × (value < 2 ^ 64)

-- no dot
abbrev pub is_no_dot : ℕ → Bool
is_no_dot byte = not (byte == 46)

abbrev pub is_printed : ℕ → Bool
is_printed byte = nat_le 32 byte && nat_le byte 126

abbrev pub AreNames : List (List ℕ) → Type 0
AreNames [] = Unit {0}
AreNames (name ∷ names) = IsName name × AreNames names

abbrev pub HasForm : Form → List ℕ → Type 0
HasForm Number text = (value : ℕ) × IsNumberText text value
HasForm Range text = (place : Place) × IsPlace text place
HasForm Access text = (value : AccessOf) × (text ≡ access_text value)
HasForm WriteKind text = (value : WriteKindOf) × (text ≡ write_kind_text value)
HasForm ReadAction text = (value : ReadActionOf) × (text ≡ read_action_text value)
HasForm Index text = (index : DimIndex) × IsIndex text index
HasForm Name text = IsName text
HasForm NamePath text = AreNames (dotted_parts text)
HasForm DeviceName text = (1 ≤ length text) × (length text ≤ 255) × (list_all is_printed text ≡ true)

-- the lowest bit isn't above the highest, where both are numbers
abbrev pub AreOrdered : List ℕ → List ℕ → Type 0
AreOrdered low high = (lsb msb : ℕ) → IsNumberText low lsb → IsNumberText high msb → lsb ≤ msb

-- a width is not 0
abbrev pub IsPositive : List ℕ → Type 0
IsPositive text = (value : ℕ) → IsNumberText text value → 1 ≤ value

-- the text holds `%s`
pub record IsMarked (text : List ℕ) : Type 0 where
  pub before : List ℕ
  pub after : List ℕ
  pub whole : text ≡ before ++ (list_mark ++ after)

-- ---- the name of an array, made of a pattern

abbrev pub first_alternative : List (List Item) → List Item
first_alternative [] = []
first_alternative (items ∷ others) = items

-- the pattern without its open items, and `[%s]`
abbrev pub array_name : List Item → List ℕ
array_name items = flat_map plain_text items ++ array_mark

-- the pattern has one alternative with exactly one open item, and names an array
pub record NamesArray (text : List ℕ) : Type 0 where
  pub items : List Item
  pub spelled : SpellsPattern (items ∷ []) text
  pub one : count_by is_open items ≡ 1
  pub named : IsName (array_name items)
