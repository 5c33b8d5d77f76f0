-- What a register does with words, by its row of the table alone (this project's own rule): places in words by division, and the start of a write bit by bit.
use Rattle.std.specs.Prelude.{ℕ, List, filter, find, Option, Some, None}
use Rattle.std.specs.Str.{bytes_eq}
use Rattle.frag_tree.specs.declared.event.Said.{Said}
use Rattle.frag_tree.specs.declared.event.Said.TheVariants.{Number}
use Rattle.frag_sem.specs.Meaning.{Acts, ActsAt}
use Rattle.pac_base.specs.Widths.{bits_of}
use Rattle.reg_table.specs.declared.row.FieldRow.{FieldRow}
use Rattle.reg_table.specs.declared.row.Row.{Row}
use Rattle.table_sem.specs.Members.{member_get, member_put}
use Rattle.table_sem.specs.Methods.{ReadMethod, WriteMethod, read_methods, write_methods}
use Rattle.table_sem.specs.StartNumber.{start_number}

-- A field or method that isn't there gives 0; a field that isn't there leaves the word as it is, and a method that isn't there writes its value. A script without fault comes to none of them.

-- ---- reading

-- the fields that can be read, and those that can be written, in the order of their declaration
abbrev pub readable_fields : Row → List FieldRow
readable_fields row = filter (λ field. field.readable) row.fields

abbrev pub writable_fields : Row → List FieldRow
writable_fields row = filter (λ field. field.writable) row.fields

abbrev pub said_of : ℕ → Option ReadMethod → Said
said_of held None = Number 0
said_of held (Some method) = method.said held

abbrev pub field_said : Option ℕ → List ℕ → ℕ → Option FieldRow → Said
field_said index method word None = Number 0
field_said index method word (Some field) = said_of (member_get field index word) (find (λ one. bytes_eq method one.name) (read_methods field))

-- ---- writing

abbrev pub number_put : ℕ → Option WriteMethod → ℕ
number_put value None = value
number_put value (Some method) = method.puts value

abbrev pub field_put : ℕ → Option ℕ → List ℕ → ℕ → ℕ → Option FieldRow → ℕ
field_put bits index method value word None = word
field_put bits index method value word (Some field) = member_put bits field index word (number_put value (find (λ one. bytes_eq method one.name) (write_methods field)))

-- ---- a row

-- what a method of a field gives of a word that was read
abbrev pub row_given : Row → List ℕ → Option ℕ → List ℕ → ℕ → Said
row_given row field index method word = field_said index method word (find (λ one. bytes_eq field one.name) (readable_fields row))

-- what a method of a field makes of a word, where the method may take a value
abbrev pub row_put : Row → List ℕ → Option ℕ → List ℕ → ℕ → ℕ → ℕ
row_put row field index method value word = field_put (bits_of row.width) index method value word (find (λ one. bytes_eq field one.name) (writable_fields row))

unfoldable pub row_acts : Row → Acts
row_acts row = record {
  width = row.width;
  reset = row.reset;
  start = λ base. start_number (bits_of row.width) base row.one row.zero;
  given = row_given row;
  put = row_put row;
}

-- the register of a row at its address
abbrev pub row_found : Row → ActsAt
row_found row = record { address = row.address; acts = row_acts row }
