-- What is copied and what is left are the whole map, in its order.
use Rattle.svd_model.specs.Trees.{peripheral_under}
use Rattle.svd_model.proofs.Copies.{CopiedUpTo}
use Rattle.svd_model.proofs.copy.copied_peripherals.Given as goal

abbrev pub invariant-loop-key : goal.invariant-loop-key
invariant-loop-key l = CopiedUpTo peripheral_under l.peripherals.entries l.made.entries l.key-iterator
