-- The mask is that of the fields before the index.
use Rattle.std.proofs.Common.{◌≡◌, take}
use Rattle.reg_table.specs.Masks.{is_by_zero, mask_of}
use Rattle.reg_table.proofs.masks.zero_mask.Given as goal

abbrev pub invariant-loop-field : goal.invariant-loop-field
invariant-loop-field l = l.mask ≡ mask_of is_by_zero (take l.field-index l.fields)
