use Rattle.patch_text.proofs.Flow.{mapping_again, mapping_takes}
use Rattle.patch_text.proofs.laws.flow_mapping_law.Goals as goal

pub returns : goal.returns
returns c text rest pairs = (mapping_takes text pairs rest, mapping_again text pairs rest)
