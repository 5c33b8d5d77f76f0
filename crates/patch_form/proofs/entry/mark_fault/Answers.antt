use Rattle.std.proofs.Common.{◌≡◌, List, ap, subst, ◌∙◌}
use Rattle.std.specs.Prelude.{MatchBool}
use Rattle.yaml_block.specs.Nodes.{node_tree}
use Rattle.patch_form.specs.Demands.{Demand, marked}
use Rattle.patch_form.specs.Finding.{First}
use Rattle.patch_form.specs.Forms.{IsMarked, trimmed}
use Rattle.patch_form.proofs.ArrayNames.{mark_decides}
use Rattle.patch_form.proofs.Placing.{mark-none, mark-some}
use Rattle.patch_form.proofs.entry.mark_fault.Goals as goal

pub returns : goal.returns
returns c =
    let text : c.trimmed-name.result.now ≡ trimmed c.in-Some.name.now = c.trimmed-name.ensures ∙ ap trimmed (c.as_bytes.ensures.value ∙ c.as_str.ensures) in
    subst (λ (demands : List Demand). First demands c.unless.result)
    (mark-some c.args.entry.now.0 (node_tree c.args.entry.now.2) c.in-Some.name.now c.in-Some.ensures)
    (c.unless.ensures (marked (trimmed c.in-Some.name.now))
    (subst (λ one. MatchBool c.has_mark.result (IsMarked one) (¬ (IsMarked one))) text (mark_decides c.trimmed-name.result.now c.has_mark.result c.has_mark.ensures)))

pub returns-in_default : goal.returns-in_default
returns-in_default c = mark-none c.args.entry.now.0 (node_tree c.args.entry.now.2) c.in_default.ensures
