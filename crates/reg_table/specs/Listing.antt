-- The listing of a register table. This project's own format: for each register a line with its path, address, width in
-- bits, directions and reset word, and for each of its fields, and each member of an array of fields, a line with its
-- name, bits, directions and kind.
use Rattle.std.specs.Prelude.{ℕ, ◌+◌, ◌-◌, ◌≤◌, ◌<◌, ◌/◌, ◌^◌, Bool, true, false, List, [], ◌++◌, codes, decimal, Option, Some, None, All}
use Rattle.std.specs.List.{flat_map}
use Rattle.pac_base.specs.Widths.{bits_of}
use Rattle.pac_base.specs.declared.path.Step.{Step as NamedStep}
use Rattle.pac_io.specs.Numerals.{hexadecimal}
use Rattle.reg_table.specs.declared.row.FieldRow.{FieldRow}
use Rattle.reg_table.specs.declared.row.Row.{Row as TableRow}
use Rattle.reg_table.specs.declared.row.RowPath.{RowPath}
use Rattle.reg_table.specs.Members.{IsIndexOf, member_at, member_count, field_indexes}
use Rattle.svd_values.specs.SchemaWords.{write_kind_text}

-- an address, with at least eight digits
abbrev pub address_text : ℕ → List ℕ
address_text address = codes "0x" ++ hexadecimal 8 address

-- a word of so many bits, with a digit for four of them
abbrev pub word_text : ℕ → ℕ → List ℕ
word_text bits word = codes "0x" ++ hexadecimal (bits / 4) word

-- the directions: readable, and writable
abbrev pub direction_text : Bool → Bool → List ℕ
direction_text true true = codes "rw"
direction_text true false = codes "ro"
direction_text false true = codes "wo"
direction_text false false = codes "--"

-- the index of an array's member
abbrev pub index_text : Option ℕ → List ℕ
index_text None = []
index_text (Some index) = codes "[" ++ (decimal index ++ codes "]")

-- a step behind the slot
abbrev pub step_text : NamedStep → List ℕ
step_text step = codes "." ++ (step.name ++ index_text step.index)

-- the slot, and the accessors with their indexes behind points
abbrev pub path_text : RowPath → List ℕ
path_text path = path.slot ++ flat_map step_text path.steps

-- the bits of a field, from the highest to the lowest
unfoldable pub bits_text : ℕ → ℕ → List ℕ
bits_text offset width = codes "[" ++ (decimal (offset + width - 1) ++ (codes ":" ++ (decimal offset ++ codes "]")))

-- the directions of a field, and its kind
unfoldable pub effect_text : FieldRow → List ℕ
effect_text field = direction_text field.readable field.writable ++ (codes " " ++ (write_kind_text field.kind ++ codes "\n"))

-- the line of a member of a field
unfoldable pub member_line : FieldRow → Option ℕ → List ℕ
member_line field index =
    codes "  " ++ (field.name ++ (index_text index ++ (codes " " ++ (bits_text (member_at field index) field.width ++ (codes " " ++ effect_text field)))))

-- the lines of a field: one for each member of an array, and one for any other
abbrev pub field_lines : FieldRow → List ℕ
field_lines field = flat_map (member_line field) (field_indexes field)

-- the directions of a register, and its reset word
unfoldable pub state_text : TableRow → List ℕ
state_text row = direction_text row.readable row.writable ++ (codes " " ++ (word_text (bits_of row.width) row.reset ++ codes "\n"))

-- the line of a register itself
unfoldable pub register_line : TableRow → List ℕ
register_line row =
    path_text row.path ++ (codes " " ++ (address_text row.address ++ (codes " " ++ (decimal (bits_of row.width) ++ (codes " " ++ state_text row)))))

-- the lines of a row
abbrev pub row_lines : TableRow → List ℕ
row_lines row = register_line row ++ flat_map field_lines row.fields

-- the listing
abbrev pub listing : List TableRow → List ℕ
listing table = flat_map row_lines table

-- the place of each member of a field has a bit, and ends within so many
pub record FitsIn (bits : ℕ) (field : FieldRow) : Type 0 where
  pub some : 1 ≤ field.width
  pub within : (index : Option ℕ) → IsIndexOf (member_count field) index → member_at field index + field.width ≤ bits

-- the reset word is one of the row's width, and its fields lie within it
pub record IsListed (row : TableRow) : Type 0 where
  pub reset : row.reset < 2 ^ bits_of row.width
  pub fields : All (FitsIn (bits_of row.width)) row.fields
