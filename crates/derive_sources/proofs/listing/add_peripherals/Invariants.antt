-- What is listed, and what is left, is all.
use Rattle.std.proofs.Common.{◌≡◌, map}
use Rattle.derive_sources.specs.Entries.{with_rest}
use Rattle.svd_model.specs.Trees.{peripheral_under}
use Rattle.svd_rows.specs.Forest.{siblings}
use Rattle.derive_sources.proofs.listing.add_peripherals.Given as goal

abbrev pub invariant-loop-key : goal.invariant-loop-key
invariant-loop-key l = with_rest l.entries.items l.parent (siblings (map peripheral_under l.key-iterator)) ≡ with_rest l.fn.entries.items l.parent (siblings (map peripheral_under l.peripherals.entries))
