use Rattle.std.proofs.Common.{Option, subst, sym}
use Rattle.yaml_block.specs.Nodes.{node_tree}
use Rattle.patch_form.specs.declared.fault.FaultKind.TheVariants.{BadPattern}
use Rattle.patch_form.specs.declared.form.KeyKind.{KeyKind}
use Rattle.patch_form.specs.Demands.{element_demands, one, pattern}
use Rattle.patch_form.specs.Finding.{First}
use Rattle.patch_form.specs.Mappings.{modify_by}
use Rattle.patch_form.proofs.Finding.{found-both}
use Rattle.patch_form.proofs.entry.modify_by.Goals as goal

pub returns-in_ok-keyed-in-None : goal.returns-in_ok-keyed-in-None
returns-in_ok-keyed-in-None c =
    let line = c.args.line in
    let tree = node_tree c.args.node.now in
    subst (λ (own : Option (Option KeyKind)). First (modify_by own line c.args.target.now tree) c.earlier.result) (sym c.in-None.is)
    (found-both (one line BadPattern (pattern c.args.target.now)) (element_demands line tree) c.in_ok-formed-in-None.formed c.in_ok-keyed-in-None.keyed c.earlier.result c.in_ok-formed-in-None.ensures c.in_ok-keyed-in-None.ensures c.earlier.ensures)
