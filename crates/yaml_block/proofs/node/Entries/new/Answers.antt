use Rattle.std.proofs.Common.{map, ap, ◌∙◌}
use Rattle.yaml_block.specs.Nodes.{entry_under}
use Rattle.yaml_block.proofs.Nodes.{entries_under-roll}
use Rattle.yaml_block.proofs.node.Entries.new.Goals as goal

pub returns : goal.returns
returns c = entries_under-roll _ ∙ ap (map entry_under) c.new.ensures.items
