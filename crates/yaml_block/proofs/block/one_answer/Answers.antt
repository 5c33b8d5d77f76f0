use Rattle.yaml_block.proofs.OneAnswer.{one_found}
use Rattle.yaml_block.proofs.block.one_answer.Goals as goal

pub returns : goal.returns
returns c = one_found
