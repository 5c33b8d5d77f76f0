-- The mask is that of the members before the number.
use Rattle.std.proofs.Common.{◌≡◌}
use Rattle.reg_table.proofs.Masking.{bits_below}
use Rattle.reg_table.proofs.masks.field_mask.Given as goal

abbrev pub invariant-loop-number : goal.invariant-loop-number
invariant-loop-number l = l.mask ≡ bits_below l.field l.number
