use Rattle.patch_sem.proofs.Renamed.{renamed-back}
use Rattle.patch_sem.proofs.laws.renaming_law.Goals as goal

pub returns : goal.returns
returns c = renamed-back
