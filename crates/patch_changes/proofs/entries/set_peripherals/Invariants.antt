-- The peripherals that were passed have their keys.
use Rattle.patch_changes.specs.Listed.{keyed}
use Rattle.patch_names.proofs.PassedItems.{PassedBy}
use Rattle.svd_model.specs.Trees.{peripheral_under}
use Rattle.patch_changes.proofs.entries.set_peripherals.Given as goal

abbrev pub invariant-loop-index : goal.invariant-loop-index
invariant-loop-index l = PassedBy peripheral_under (λ entry. keyed l.pattern l.keys (peripheral_under entry)) l.fn.peripherals.entries l.peripherals.entries l.index
