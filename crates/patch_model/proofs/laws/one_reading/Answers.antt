use Rattle.patch_model.proofs.OneReading.{one_read}
use Rattle.patch_model.proofs.laws.one_reading.Goals as goal

pub returns : goal.returns
returns c = one_read
