use Rattle.std.proofs.Common.{◌≡◌, List, ap, subst, ◌∙◌}
use Rattle.std.specs.Prelude.{MatchBool}
use Rattle.yaml_block.specs.Nodes.{node_tree}
use Rattle.patch_form.specs.Demands.{Demand, positive}
use Rattle.patch_form.specs.Finding.{First}
use Rattle.patch_form.specs.Forms.{IsPositive, trimmed}
use Rattle.patch_form.proofs.Placing.{width-none, width-some}
use Rattle.patch_form.proofs.place.width_fault.Goals as goal

pub returns : goal.returns
returns c =
    let text : c.trimmed-width.result.now ≡ trimmed c.in-Some.width.now = c.trimmed-width.ensures ∙ ap trimmed (c.as_bytes.ensures.value ∙ c.as_str.ensures) in
    subst (λ (demands : List Demand). First demands c.unless.result)
    (width-some c.args.entry.now.0 (node_tree c.args.entry.now.2) c.in-Some.width.now c.in-Some.ensures)
    (c.unless.ensures (positive (trimmed c.in-Some.width.now))
    (subst (λ one. MatchBool c.is_positive.result (IsPositive one) (¬ (IsPositive one))) text c.is_positive.ensures))

pub returns-in_default : goal.returns-in_default
returns-in_default c = width-none c.args.entry.now.0 (node_tree c.args.entry.now.2) c.in_default.ensures
