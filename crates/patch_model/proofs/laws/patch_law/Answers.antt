use Rattle.patch_model.proofs.OneReading.{is_patch}
use Rattle.patch_model.proofs.laws.patch_law.Goals as goal

pub returns : goal.returns
returns c = is_patch
