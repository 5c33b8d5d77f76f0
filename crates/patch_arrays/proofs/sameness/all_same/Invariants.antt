-- What is left decides.
use Rattle.patch_arrays.proofs.Pointwise.{SameFrom}
use Rattle.patch_arrays.proofs.sameness.all_same.Given as goal

abbrev pub invariant-loop-index : goal.invariant-loop-index
invariant-loop-index g l = SameFrom g.T.Compared.same l.one l.other l.index
