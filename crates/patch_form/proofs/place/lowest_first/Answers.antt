use Rattle.std.proofs.Common.{◌≡◌, List, ap, subst, ◌∙◌}
use Rattle.std.specs.Prelude.{MatchBool}
use Rattle.yaml_block.specs.Nodes.{node_tree}
use Rattle.patch_form.specs.Demands.{Demand, ordered}
use Rattle.patch_form.specs.Finding.{First}
use Rattle.patch_form.specs.Forms.{AreOrdered, trimmed}
use Rattle.patch_form.proofs.Placing.{lowest-no_low, lowest-no_high, lowest-both}
use Rattle.patch_form.proofs.place.lowest_first.Goals as goal

pub returns : goal.returns
returns c =
    let low : c.trimmed-lsb.result.now ≡ trimmed c.in-Some.lsb.now = c.trimmed-lsb.ensures ∙ ap trimmed (c.as_bytes.ensures.value ∙ c.as_str.ensures) in
    let high : c.trimmed-msb.result.now ≡ trimmed c.in-Some-scalar.msb.now = c.trimmed-msb.ensures ∙ ap trimmed (c.as_bytes-2.ensures.value ∙ c.as_str-2.ensures) in
    subst (λ (demands : List Demand). First demands c.unless.result)
    (lowest-both c.args.low.now.0 c.args.high.now.0 (node_tree c.args.low.now.2) (node_tree c.args.high.now.2) c.in-Some.lsb.now c.in-Some-scalar.msb.now c.in-Some.ensures c.in-Some-scalar.ensures)
    (c.unless.ensures (ordered (trimmed c.in-Some.lsb.now) (trimmed c.in-Some-scalar.msb.now))
    (subst (λ one. MatchBool c.are_ordered.result (AreOrdered one (trimmed c.in-Some-scalar.msb.now)) (¬ (AreOrdered one (trimmed c.in-Some-scalar.msb.now)))) low
    (subst (λ other. MatchBool c.are_ordered.result (AreOrdered c.trimmed-lsb.result.now other) (¬ (AreOrdered c.trimmed-lsb.result.now other))) high c.are_ordered.ensures)))

pub returns-in_default : goal.returns-in_default
returns-in_default c = lowest-no_low c.args.low.now.0 c.args.high.now.0 (node_tree c.args.low.now.2) (node_tree c.args.high.now.2) c.in_default.ensures

pub returns-in_default-scalar : goal.returns-in_default-scalar
returns-in_default-scalar c = lowest-no_high c.args.low.now.0 c.args.high.now.0 (node_tree c.args.low.now.2) (node_tree c.args.high.now.2) c.in_default-scalar.ensures
