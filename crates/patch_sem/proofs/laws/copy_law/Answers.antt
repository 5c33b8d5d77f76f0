use Rattle.patch_sem.proofs.Copied.{copy-left_out}
use Rattle.patch_sem.proofs.laws.copy_law.Goals as goal

pub returns : goal.returns
returns c = copy-left_out
