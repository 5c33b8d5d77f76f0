use Rattle.std.proofs.Common.{◌≡◌, length}
use Rattle.patch_form.specs.Naming.{has_mark}
use Rattle.patch_form.proofs.naming.has_mark.Given as goal

abbrev pub invariant-loop-rest : goal.invariant-loop-rest
invariant-loop-rest l = has_mark l.rest ≡ has_mark l.text

abbrev pub decreases-loop-rest : goal.decreases-loop-rest
decreases-loop-rest l = length l.rest
