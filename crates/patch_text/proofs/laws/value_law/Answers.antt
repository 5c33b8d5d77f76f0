use Rattle.patch_text.proofs.Values.{last_again, last_takes}
use Rattle.patch_text.proofs.laws.value_law.Goals as goal

pub returns : goal.returns
returns c text value = (λ read. last_takes text value read.0 read.1 read.2, last_again text value)
