-- The first pair of the fields that are left is the first of all; each field that is left fits.
use Rattle.std.proofs.Common.{◌≡◌, []}
use Rattle.std.specs.List.{AllByRecursion}
use Rattle.pac_base.specs.Widths.{bits_of}
use Rattle.overlap_sweep.specs.Kept.{all_spots, kept_pair}
use Rattle.reg_table.specs.Fields.{FieldFits}
use Rattle.svd_model.specs.Checking.{width_of}
use Rattle.svd_model.specs.Properties.{access_at, can_read, can_write, register_properties, size_at}
use Rattle.overlap_sweep.proofs.field.shared_fields.Given as goal

abbrev pub invariant-loop-key : goal.invariant-loop-key
invariant-loop-key l = record {
  left : kept_pair [] (all_spots (can_read (access_at l.register l.outer)) (can_write (access_at l.register l.outer)) l.register.fields.entries) ≡ kept_pair l.kept (all_spots (can_read (access_at l.register l.outer)) (can_write (access_at l.register l.outer)) l.key-iterator);
  fit : AllByRecursion (FieldFits (bits_of (width_of (size_at (register_properties l.register l.outer))))) l.key-iterator;
}
