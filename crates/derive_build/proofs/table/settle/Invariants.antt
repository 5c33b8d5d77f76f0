-- The elements before the index in the order are settled.
use Rattle.std.proofs.Common.{take}
use Rattle.derive_build.specs.Filling.{IsFilled}
use Rattle.derive_build.proofs.table.settle.Given as goal

abbrev pub invariant-loop-number : goal.invariant-loop-number
invariant-loop-number l = IsFilled l.owns l.sources l.elements l.table.items (take l.number-index l.order)
