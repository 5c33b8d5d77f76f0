-- The blocks that are made, and those of the peripherals that are left, are those of all; these are checked; and what is made is valid.
use Rattle.std.proofs.Common.{◌≡◌, ◌++◌, true, map}
use Rattle.std.specs.List.{list_all}
use Rattle.checked_tree.specs.Devices.{ArePeripherals}
use Rattle.frag_tree.specs.declared.krate.Version.TheVariants.{Two}
use Rattle.frag_tree.specs.Trees.{block_tree}
use Rattle.frag_tree.specs.Validity.{valid_block}
use Rattle.reg_table.specs.Walk.{FitIn}
use Rattle.svd_model.specs.Trees.{peripheral_under}
use Rattle.svd_rows.specs.Forest.{siblings}
use Rattle.crate_form.specs.Crates.{blocks_of}
use Rattle.crate_form.proofs.krate.blocks.Given as goal

abbrev pub invariant-loop-key : goal.invariant-loop-key
invariant-loop-key l = record {
  blocks : map block_tree l.blocks.items ++ blocks_of l.device.props (siblings (map peripheral_under l.key-iterator)) ≡ blocks_of l.device.props (siblings (map peripheral_under l.device.peripherals.entries));
  valid : list_all (valid_block Two) (map block_tree l.blocks.items) ≡ true;
  fit : FitIn 0 l.device.props (siblings (map peripheral_under l.key-iterator));
  checked : ArePeripherals l.device.props (siblings (map peripheral_under l.key-iterator));
}
