-- What stands in a member of a field, and what it is to put a number there.
use Rattle.std.specs.Prelude.{ℕ, ◌%◌, ◌^◌, Option}
use Rattle.bits_word.specs.Places.{get, put}
use Rattle.reg_table.specs.declared.row.FieldRow.{FieldRow}
use Rattle.reg_table.specs.Members.{member_at}

-- the number that stands in a member
abbrev pub member_get : FieldRow → Option ℕ → ℕ → ℕ
member_get field index word = get word (member_at field index) field.width

-- the word of so many bits with this number in a member; nothing is put above these bits, where no member lies
abbrev pub member_put : ℕ → FieldRow → Option ℕ → ℕ → ℕ → ℕ
member_put bits field index word value = put word (member_at field index) field.width value % 2 ^ bits
