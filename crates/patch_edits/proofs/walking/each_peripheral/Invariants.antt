use Rattle.std.proofs.Common.{◌≡◌, Some, length, map}
use Rattle.patch_sem.specs.Selecting.{selects}
use Rattle.patch_edits.proofs.Passed.{Passed}
use Rattle.patch_edits.specs.Edits.{Recounted, below_device}
use Rattle.patch_edits.specs.Visits.{visited}
use Rattle.svd_model.specs.Trees.{peripheral_under}
use Rattle.patch_edits.proofs.walking.each_peripheral.Given as goal

abbrev pub invariant-loop-index : goal.invariant-loop-index
invariant-loop-index g l =
    (length l.peripherals.entries ≡ length l.fn.peripherals.entries) ×
    Passed (selects l.first) (λ kind. visited (g.E.Edit.edit l.edit) (map selects l.rest) (Some kind)) peripheral_under l.fn.peripherals.entries l.peripherals.entries l.index ×
    Recounted l.fn.total (below_device l.fn.peripherals.entries) l.total (below_device l.peripherals.entries)
