use Rattle.std.proofs.Common.{map, ap, sym, ◌∙◌}
use Rattle.yaml_block.specs.Nodes.{entry_under}
use Rattle.yaml_block.proofs.Nodes.{entries_under-is}
use Rattle.yaml_block.proofs.node.Entries.as_slice.Goals as goal

pub returns : goal.returns
returns c = ap (map entry_under) c.as_slice.ensures.value ∙ sym (entries_under-is c.args.self.now)
