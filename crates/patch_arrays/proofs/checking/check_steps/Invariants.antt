-- What is left decides.
use Rattle.std.proofs.Common.{◌≡◌, length}
use Rattle.patch_arrays.proofs.Checked.{uneven_in}
use Rattle.patch_arrays.specs.Members.{under_key}
use Rattle.patch_arrays.proofs.checking.check_steps.Given as goal

abbrev pub invariant-loop-one : goal.invariant-loop-one
invariant-loop-one g l = uneven_in (under_key g.M.Member.seen) l.step l.rest ≡ uneven_in (under_key g.M.Member.seen) l.step l.members

abbrev pub decreases-loop-one : goal.decreases-loop-one
decreases-loop-one g l = length l.rest
