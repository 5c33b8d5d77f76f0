-- The page, and the lines of the fields that are left, are the whole text.
use Rattle.std.proofs.Common.{◌≡◌, ◌++◌, drop}
use Rattle.std.specs.List.{flat_map}
use Rattle.reg_table.specs.Listing.{field_lines}
use Rattle.reg_table.proofs.listing.push_fields.Given as goal

abbrev pub invariant-loop-field : goal.invariant-loop-field
invariant-loop-field l = l.page ++ flat_map field_lines (drop l.field-index l.fields) ≡ l.fn.page ++ flat_map field_lines l.fields
