use Rattle.std.proofs.Common.{map, ap, sym, ◌∙◌}
use Rattle.std.specs.Prelude.{reverse}
use Rattle.yaml_block.specs.Nodes.{item_under}
use Rattle.yaml_block.specs.declared.node.Items.{out-Items}
use Rattle.yaml_block.proofs.Nodes.{items_under-is, items_under-roll, map_reverse}
use Rattle.yaml_block.proofs.node.Items.turned.Goals as goal

pub returns : goal.returns
returns c =
    items_under-roll _ ∙ ap (map item_under) c.reverse.ensures.items ∙ map_reverse item_under (out-Items c.args.self).items.items ∙ ap reverse (sym (items_under-is c.args.self))
