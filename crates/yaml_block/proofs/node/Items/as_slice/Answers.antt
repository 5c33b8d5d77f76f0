use Rattle.std.proofs.Common.{map, ap, sym, ◌∙◌}
use Rattle.yaml_block.specs.Nodes.{item_under}
use Rattle.yaml_block.proofs.Nodes.{items_under-is}
use Rattle.yaml_block.proofs.node.Items.as_slice.Goals as goal

pub returns : goal.returns
returns c = ap (map item_under) c.as_slice.ensures.value ∙ sym (items_under-is c.args.self.now)
