use Rattle.std.proofs.Common.{List, ℕ, ◌++◌, subst, ◌∙◌}
use Rattle.yaml_block.specs.Nodes.{node_tree}
use Rattle.patch_form.specs.declared.fault.FaultKind.TheVariants.{BadValue}
use Rattle.patch_form.specs.declared.form.Form.TheVariants.{Name}
use Rattle.patch_form.specs.Demands.{element_demands, of_form, one}
use Rattle.patch_form.specs.Finding.{First}
use Rattle.patch_form.specs.Mappings.{from_in}
use Rattle.patch_form.proofs.Finding.{found-both}
use Rattle.patch_form.proofs.entry.copy_fault.Goals as goal

pub returns : goal.returns
returns c =
    let line = c.args.line in
    let tree = node_tree c.args.node.now in
    found-both (one line BadValue (of_form Name c.args.name.now)) (element_demands line tree ++ from_in line tree) c.in_ok-named.named c.earlier.result c.earlier-2.result
    (subst (λ (text : List ℕ). First (one line BadValue (of_form Name text)) c.in_ok-named.named) (c.as_bytes.ensures.value ∙ c.as_str.ensures) c.in_ok-named.ensures)
    (found-both (element_demands line tree) (from_in line tree) c.in_ok-keyed.keyed c.from_fault.result c.earlier.result c.in_ok-keyed.ensures c.from_fault.ensures c.earlier.ensures)
    c.earlier-2.ensures
