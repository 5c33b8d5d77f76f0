-- What is made and what is left come to the whole.
use Rattle.std.proofs.Common.{map}
use Rattle.dim_expand.specs.Narrow.{AreNarrow, IsNarrowForest}
use Rattle.dim_expand.proofs.Growing.{Growing}
use Rattle.svd_model.specs.Trees.{peripheral_under}
use Rattle.svd_rows.specs.Forest.{siblings}
use Rattle.dim_expand.proofs.peripheral.unfolded_peripherals.Given as goal

abbrev pub invariant-loop-key : goal.invariant-loop-key
invariant-loop-key l =
    IsNarrowForest (siblings (map peripheral_under l.peripherals.entries)) → Growing (map peripheral_under l.peripherals.entries) l.tally.counts.entries (map peripheral_under l.made.entries) (map peripheral_under l.key-iterator) × AreNarrow (siblings (map peripheral_under l.key-iterator))
