-- What is made, and the members in the peripherals that are left, are all members; and the peripherals that are left fit.
use Rattle.std.proofs.Common.{◌≡◌, ◌++◌, map}
use Rattle.overlap_sweep.specs.Walk.{spots_of_peripherals}
use Rattle.reg_table.specs.Walk.{FitIn}
use Rattle.svd_model.specs.Trees.{peripheral_under}
use Rattle.svd_rows.specs.Forest.{siblings}
use Rattle.overlap_sweep.proofs.walk.spots.Given as goal

abbrev pub invariant-loop-key : goal.invariant-loop-key
invariant-loop-key l = record {
  spots : l.made ++ spots_of_peripherals l.device.props (siblings (map peripheral_under l.key-iterator)) ≡ spots_of_peripherals l.device.props (siblings (map peripheral_under l.device.peripherals.entries));
  fit : FitIn 0 l.device.props (siblings (map peripheral_under l.key-iterator));
}
