-- What is left decides.
use Rattle.patch_arrays.proofs.Pointwise.{SameFrom}
use Rattle.patch_arrays.specs.Unplaced.{same_item}
use Rattle.patch_arrays.proofs.resembling.+likeness.Given as goal

abbrev pub invariant-same_items-loop-index : goal.invariant-same_items-loop-index
invariant-same_items-loop-index l = SameFrom same_item l.one l.other l.index
