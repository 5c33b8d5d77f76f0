use Rattle.std.proofs.Common.{map, ap, ◌∙◌}
use Rattle.yaml_block.specs.Nodes.{item_under}
use Rattle.yaml_block.proofs.Nodes.{items_under-roll}
use Rattle.yaml_block.proofs.node.Items.new.Goals as goal

pub returns : goal.returns
returns c = items_under-roll _ ∙ ap (map item_under) c.new.ensures.items
