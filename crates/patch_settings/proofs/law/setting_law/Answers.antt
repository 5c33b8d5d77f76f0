use Rattle.patch_settings.proofs.Keeping.{setting-keeps}
use Rattle.patch_settings.proofs.law.setting_law.Goals as goal

pub returns : goal.returns
returns c = setting-keeps
