use Rattle.std.proofs.Common.{◌∙◌}
use Rattle.std.proofs.lemmas.List.{length-map}
use Rattle.yaml_block.proofs.Nodes.{items_under-is}
use Rattle.yaml_block.specs.declared.node.Items.{out-Items}
use Rattle.yaml_block.proofs.node.Items.len.Goals as goal

pub returns : goal.returns
returns c = rw (items_under-is c.args.self.now, length-map) (c.len.ensures ∙ (out-Items c.args.self.now).items.ok.0)
