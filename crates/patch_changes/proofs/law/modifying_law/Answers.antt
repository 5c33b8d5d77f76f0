use Rattle.patch_changes.proofs.Changing.{modifying-agrees}
use Rattle.patch_changes.proofs.law.modifying_law.Goals as goal

pub returns : goal.returns
returns c = modifying-agrees
