use Rattle.std.proofs.Common.{◌≡◌, length}
use Rattle.std.specs.Prelude.{reverse}
use Rattle.text_scan.specs.Classes.{is_blank}
use Rattle.text_scan.specs.Fronts.{rest_of}
use Rattle.patch_form.specs.Forms.{trimmed}
use Rattle.patch_form.proofs.form.trimmed.Given as goal

abbrev pub invariant-rest : goal.invariant-rest
invariant-rest l = reverse (rest_of is_blank (reverse l.rest)) ≡ trimmed l.text

abbrev pub decreases-rest : goal.decreases-rest
decreases-rest l = length l.rest
