use Rattle.yaml_block.proofs.Blocks.{one_spelled}
use Rattle.yaml_block.proofs.block.one_mapping.Goals as goal

pub returns : goal.returns
returns c one other lines first second = one_spelled one other lines first second
