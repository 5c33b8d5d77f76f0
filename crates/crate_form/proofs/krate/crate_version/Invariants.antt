-- The peripherals that are left decide, and they are checked.
use Rattle.std.proofs.Common.{◌≡◌, map}
use Rattle.checked_tree.specs.Devices.{ArePeripherals}
use Rattle.reg_table.specs.Walk.{FitIn}
use Rattle.svd_model.specs.Trees.{peripheral_under}
use Rattle.svd_rows.specs.Forest.{siblings}
use Rattle.crate_form.specs.Crates.{takes_indexes}
use Rattle.crate_form.proofs.krate.crate_version.Given as goal

abbrev pub invariant-loop-key : goal.invariant-loop-key
invariant-loop-key l = record {
  decide : takes_indexes l.device.props (siblings (map peripheral_under l.key-iterator)) ≡ takes_indexes l.device.props (siblings (map peripheral_under l.device.peripherals.entries));
  fit : FitIn 0 l.device.props (siblings (map peripheral_under l.key-iterator));
  checked : ArePeripherals l.device.props (siblings (map peripheral_under l.key-iterator));
}
