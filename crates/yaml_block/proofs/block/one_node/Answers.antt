use Rattle.yaml_block.proofs.Meanings.{one_meant}
use Rattle.yaml_block.proofs.block.one_node.Goals as goal

pub returns : goal.returns
returns c = one_meant
