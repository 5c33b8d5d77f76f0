use Rattle.std.proofs.Common.{◌≡◌, [], ◌∷◌, ◌++◌, ap, sym, ◌∙◌, arith}
use Rattle.std.proofs.lemmas.List.{nil_from_length}
use Rattle.yaml_block.specs.Building.{built_behind, built_in, tree_in}
use Rattle.yaml_block.proofs.Building.{behind_last, built_in-none}
use Rattle.yaml_block.proofs.build.built.Goals as goal

pub lines-init : goal.lines-init
lines-init c = ap (built_behind c.args.lines.now) (built_in-none c.new-runs.result.items c.new-runs.ensures.items)

pub lines-preserved : goal.lines-preserved
lines-preserved c =
    let whole : c.lines.rest.now ≡ c.in-Some.before.now ++ c.in-Some.line.now ∷ [] = c.in-Some.ensures.cases.0 in
    ap (built_behind c.in-Some.before.now) c.in_ok-put_line.ensures
    ∙ sym (behind_last c.in-Some.before.now c.in-Some.line.now (built_in c.lines.runs.items))
    ∙ sym (ap (λ lines. built_behind lines (built_in c.lines.runs.items)) whole)
    ∙ c.lines.invariant

pub returns : goal.returns
unfolding built_behind
returns c =
    let none : c.lines.rest.now ≡ [] = nil_from_length c.lines.rest.now (omega (arith, c.in_default.ensures.cases)) in
    c.node_in.ensures ∙ ap tree_in (sym (ap (λ lines. built_behind lines (built_in c.lines.runs.items)) none) ∙ c.lines.invariant)
