use Rattle.std.proofs.Common.{◌≡◌, Some, length, map}
use Rattle.patch_sem.specs.Selecting.{selects}
use Rattle.patch_growth.proofs.Passed.{Passed}
use Rattle.patch_growth.specs.Growths.{grown_all}
use Rattle.svd_model.specs.Trees.{peripheral_under}
use Rattle.patch_growth.proofs.walking.each_peripheral.Given as goal

abbrev pub invariant-loop-index : goal.invariant-loop-index
invariant-loop-index g l =
    (length l.peripherals.entries ≡ length l.fn.peripherals.entries) ×
    Passed (selects l.first) (λ kind. grown_all (g.M.Maker.growth l.maker) (map selects l.rest) (Some kind)) peripheral_under l.fn.total l.fn.peripherals.entries l.total l.peripherals.entries l.index
