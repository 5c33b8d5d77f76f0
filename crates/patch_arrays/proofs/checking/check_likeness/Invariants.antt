-- What is left decides.
use Rattle.std.proofs.Common.{◌≡◌, length}
use Rattle.patch_arrays.proofs.Checked.{unlike_in}
use Rattle.patch_arrays.specs.Members.{under_key}
use Rattle.patch_arrays.proofs.checking.check_likeness.Given as goal

abbrev pub invariant-loop-other : goal.invariant-loop-other
invariant-loop-other g l = unlike_in (under_key g.M.Member.seen) (under_key g.M.Member.seen l.first) l.rest ≡ unlike_in (under_key g.M.Member.seen) (under_key g.M.Member.seen l.first) l.others

abbrev pub decreases-loop-other : goal.decreases-loop-other
decreases-loop-other g l = length l.rest
