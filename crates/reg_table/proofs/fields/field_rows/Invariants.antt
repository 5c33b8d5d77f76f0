-- The rows that are made, and those of the fields that are left, are the rows of all; each field that is left fits.
use Rattle.std.proofs.Common.{◌≡◌, ◌++◌, map}
use Rattle.std.specs.List.{AllByRecursion}
use Rattle.pac_base.specs.Widths.{bits_of}
use Rattle.reg_table.specs.Fields.{FieldFits, field_part, field_row}
use Rattle.reg_table.proofs.fields.field_rows.Given as goal

abbrev pub invariant-loop-key : goal.invariant-loop-key
invariant-loop-key l = record {
  rows : l.made ++ map (λ entry. field_row l.facts.readable l.facts.writable l.register.kind (field_part entry)) l.key-iterator ≡ map (λ entry. field_row l.facts.readable l.facts.writable l.register.kind (field_part entry)) l.register.fields.entries;
  fit : AllByRecursion (FieldFits (bits_of l.width)) l.key-iterator;
}
