-- What is left decides.
use Rattle.patch_arrays.proofs.Pointwise.{SameFrom}
use Rattle.patch_arrays.specs.Unplaced.{same_field}
use Rattle.patch_arrays.proofs.resembling.same_fields.Given as goal

abbrev pub invariant-loop-index : goal.invariant-loop-index
invariant-loop-index l = SameFrom same_field l.one.entries l.other.entries l.index
