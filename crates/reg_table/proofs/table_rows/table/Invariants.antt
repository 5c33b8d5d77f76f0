-- The table, and the rows of the peripherals that are left, are the whole table; the peripherals that are left fit; and
-- the rows can be listed.
use Rattle.std.proofs.Common.{◌≡◌, ◌++◌, map}
use Rattle.std.specs.Prelude.{All}
use Rattle.reg_table.specs.Listing.{IsListed}
use Rattle.reg_table.specs.Walk.{FitIn, rows_of_peripherals}
use Rattle.svd_model.specs.Trees.{peripheral_under}
use Rattle.svd_rows.specs.Forest.{siblings}
use Rattle.reg_table.proofs.table_rows.table.Given as goal

abbrev pub invariant-loop-key : goal.invariant-loop-key
invariant-loop-key l = record {
  rows : l.table ++ rows_of_peripherals l.device.props (siblings (map peripheral_under l.key-iterator)) ≡ rows_of_peripherals l.device.props (siblings (map peripheral_under l.device.peripherals.entries));
  fit : FitIn 0 l.device.props (siblings (map peripheral_under l.key-iterator));
  listed : All IsListed l.table;
}
