use Rattle.std.proofs.Common.{map, ap, sym, ◌∙◌}
use Rattle.std.specs.Prelude.{reverse}
use Rattle.yaml_block.specs.Nodes.{entry_under}
use Rattle.yaml_block.specs.declared.node.Entries.{out-Entries}
use Rattle.yaml_block.proofs.Nodes.{entries_under-is, entries_under-roll, map_reverse}
use Rattle.yaml_block.proofs.node.Entries.turned.Goals as goal

pub returns : goal.returns
returns c =
    entries_under-roll _ ∙ ap (map entry_under) c.reverse.ensures.items ∙ map_reverse entry_under (out-Entries c.args.self).entries.items ∙ ap reverse (sym (entries_under-is c.args.self))
