use Rattle.patch_sem.proofs.Deleting.{deletion-leaves_none}
use Rattle.patch_sem.proofs.laws.deletion_law.Goals as goal

pub returns : goal.returns
returns c = deletion-leaves_none
