use Rattle.std.proofs.Common.{◌≡◌, length}
use Rattle.text_scan.specs.Fronts.{rest_of}
use Rattle.patch_form.specs.Forms.{is_no_dot}
use Rattle.patch_form.proofs.form.from_dot.Given as goal

abbrev pub invariant-loop-rest : goal.invariant-loop-rest
invariant-loop-rest l = rest_of is_no_dot l.rest ≡ rest_of is_no_dot l.text

abbrev pub decreases-loop-rest : goal.decreases-loop-rest
decreases-loop-rest l = length l.rest
