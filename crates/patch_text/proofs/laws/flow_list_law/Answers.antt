use Rattle.patch_text.proofs.Flow.{list_again, list_takes}
use Rattle.patch_text.proofs.laws.flow_list_law.Goals as goal

pub returns : goal.returns
returns c text rest scalars = (list_takes text scalars rest, list_again text scalars rest)
