-- What is listed, and what is left, is all.
use Rattle.std.proofs.Common.{◌≡◌, map}
use Rattle.derive_build.specs.Nodes.{with_rest}
use Rattle.svd_model.specs.Trees.{peripheral_under}
use Rattle.svd_rows.specs.Forest.{siblings}
use Rattle.derive_build.proofs.listing.add_peripherals.Given as goal

abbrev pub invariant-loop-key : goal.invariant-loop-key
invariant-loop-key l = with_rest l.owns.items (siblings (map peripheral_under l.key-iterator)) ≡ with_rest l.fn.owns.items (siblings (map peripheral_under l.peripherals.entries))
