use Rattle.yaml_block.specs.Nodes.{node_tree}
use Rattle.patch_form.specs.Demands.{element_demands}
use Rattle.patch_form.specs.Mappings.{name_in}
use Rattle.patch_form.proofs.Finding.{found-both}
use Rattle.patch_form.proofs.entry.array_fault.Goals as goal

pub returns : goal.returns
returns c =
    found-both (element_demands c.args.line (node_tree c.args.node.now)) (name_in c.args.line c.args.target.now (node_tree c.args.node.now)) c.in_ok-keyed.keyed c.in_ok-named.named c.earlier.result c.in_ok-keyed.ensures c.in_ok-named.ensures c.earlier.ensures
