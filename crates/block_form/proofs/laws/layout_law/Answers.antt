use Rattle.block_form.proofs.Standing.{accessors_lead}
use Rattle.block_form.proofs.laws.layout_law.Goals as goal

pub returns : goal.returns
returns c = record { leads = accessors_lead }
