use Rattle.std.proofs.Common.{◌≡◌, codes, ap, subst, sym, ◌∙◌}
use Rattle.std.proofs.lemmas.Slice.Eq.{bytes_eq-Decides}
use Rattle.yaml_block.specs.Nodes.{node_tree}
use Rattle.glob_select.specs.Reading.{alternatives_of}
use Rattle.patch_model.specs.Acts.{arrays}
use Rattle.patch_form.specs.Demands.{At, at_key}
use Rattle.patch_model.specs.Orders.{NamedBy, name_by, name_for}
use Rattle.patch_model.proofs.Copying.{array_met}
use Rattle.patch_model.proofs.deed.array_act.Goals as goal

pub array_name-requires : goal.array_name-requires
array_name-requires c = record {
  named = subst (λ (at : At). NamedBy c.args.target.now at) (sym (c.at_key.ensures ∙ ap (at_key (codes "name")) c.entries_in-entries.ensures))
      (array_met c.args.line c.args.target.now (node_tree c.args.node.now) (λ other is. (bytes_eq-Decides other (codes "name")).0 is) c.requires.met).0;
}

pub pattern_of-requires : goal.pattern_of-requires
pattern_of-requires c = record {
  spelled = (array_met c.args.line c.args.target.now (node_tree c.args.node.now) (λ other is. (bytes_eq-Decides other (codes "name")).0 is) c.requires.met).1;
}

pub returns : goal.returns
returns c =
    let target : c.in_ok-target.target ≡ alternatives_of c.args.target.now = c.in_ok-target.ensures in
    let name : c.in_ok-name.name ≡ name_for c.args.target.now (node_tree c.args.node.now) =
    c.in_ok-name.ensures ∙ ap (name_by c.args.target.now) (c.at_key.ensures ∙ ap (at_key (codes "name")) c.entries_in-entries.ensures) in
    λ j. arrays (target j) (name j)
