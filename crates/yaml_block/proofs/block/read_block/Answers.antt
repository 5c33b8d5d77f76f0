use Rattle.std.proofs.Common.{[], ap, sym, ◌∙◌}
use Rattle.std.proofs.lemmas.Result.{err_from_is_err_and}
use Rattle.yaml_block.specs.Building.{built_behind, tree_in}
use Rattle.yaml_block.specs.Nodes.{node_tree}
use Rattle.yaml_block.proofs.Answering.{block, double, refused_by}
use Rattle.yaml_block.proofs.block.read_block.Goals as goal

pub returns-in_err-lines-clause-refused : goal.returns-in_err-lines-clause-refused
returns-in_err-lines-clause-refused c =
    let p = err_from_is_err_and c.from_residual.result c.from_residual.ensures.1 in
    rw (p.1, p.2) (refused_by c.args.bytes.now c.in_err-lines.field-0.0 c.in_err-lines.ensures.refused)

pub returns-in-Some-clause-refused : goal.returns-in-Some-clause-refused
returns-in-Some-clause-refused c =
    let right = c.in_ok-lines.ensures.right in
    double c.args.bytes.now (node_tree c.in_ok-node.node) right.shallow right.formed
    (c.in_ok-node.ensures ∙ ap (λ lines. tree_in (built_behind lines [])) (c.as_slice.ensures ∙ right.all))
    c.in-Some.line (sym c.in_ok-line.ensures ∙ c.in-Some.is)

pub returns-clause-spelled : goal.returns-clause-spelled
returns-clause-spelled c =
    let right = c.in_ok-lines.ensures.right in
    block c.args.bytes.now (node_tree c.in_ok-node.node) right.shallow right.formed
    (c.in_ok-node.ensures ∙ ap (λ lines. tree_in (built_behind lines [])) (c.as_slice.ensures ∙ right.all))
    (sym c.in_ok-line.ensures ∙ c.in-None.is)
