use Rattle.std.proofs.Common.{rules}
use Rattle.patch_form.proofs.form.is_name.Goals as goal
use Rattle.patch_form.proofs.form.is_name.Goals.{in-Ok, in-Err-NotAName, in-Err-Memory}

pub returns : goal.returns
returns c = elim c.match-new.branch [
  | in-Ok w ↦ rw w.result-is w.in-Ok.ensures.ok.1
  | in-Err-NotAName w ↦ rw w.result-is (w.in-Err-NotAName.ensures.refused.0 (search rules))
  | in-Err-Memory w ↦ rw w.result-is tt
]
