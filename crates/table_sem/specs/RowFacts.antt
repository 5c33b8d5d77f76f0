-- What checking says of each row of a description's register table.
use Rattle.std.specs.Prelude.{ℕ, ◌≡◌, ◌+◌, ◌/◌, ◌^◌, ◌<◌, ◌≤◌, true, false, Option}
use Rattle.std.specs.List.{AllByRecursion}
use Rattle.pac_base.specs.Widths.{bits_of}
use Rattle.reg_table.specs.declared.row.FieldRow.{FieldRow}
use Rattle.reg_table.specs.declared.row.Row.{Row}
use Rattle.reg_table.specs.Members.{IsIndexOf, member_at, member_count}

-- A field of a register of so many bits has a bit, and each of its members ends within the register; its enumerated values are numbers of its bits; and it is read or written only where the register is.
pub record FieldFits (row : Row) (field : FieldRow) : Type 0 where
  pub some : 1 ≤ field.width
  pub within : (index : Option ℕ) → IsIndexOf (member_count field) index → member_at field index + field.width ≤ bits_of row.width
  pub is_calls : AllByRecursion (λ call. call.value < 2 ^ field.width) field.is_calls
  pub set_calls : AllByRecursion (λ call. call.value < 2 ^ field.width) field.set_calls
  pub readable : field.readable ≡ true → row.readable ≡ true
  pub writable : field.writable ≡ true → row.writable ≡ true

-- A register ends at or below 2^64; its reset word and its masks are words of its width; its fields fit; and where it isn't written, no bit is masked.
pub record RowFits (row : Row) : Type 0 where
  pub ends : row.address + bits_of row.width / 8 ≤ 2 ^ 64
  pub reset : row.reset < 2 ^ bits_of row.width
  pub one : row.one < 2 ^ bits_of row.width
  pub raised : row.zero < 2 ^ bits_of row.width
  pub fields : AllByRecursion (FieldFits row) row.fields
  pub no_one : row.writable ≡ false → row.one ≡ 0
  pub no_raised : row.writable ≡ false → row.zero ≡ 0
