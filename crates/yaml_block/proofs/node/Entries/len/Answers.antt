use Rattle.std.proofs.Common.{◌∙◌}
use Rattle.std.proofs.lemmas.List.{length-map}
use Rattle.yaml_block.proofs.Nodes.{entries_under-is}
use Rattle.yaml_block.specs.declared.node.Entries.{out-Entries}
use Rattle.yaml_block.proofs.node.Entries.len.Goals as goal

pub returns : goal.returns
returns c = rw (entries_under-is c.args.self.now, length-map) (c.len.ensures ∙ (out-Entries c.args.self.now).entries.ok.0)
