use Rattle.std.proofs.Common.{[], ◌∷◌, ◌++◌, ap, ap₂, sym, ◌∙◌}
use Rattle.yaml_block.specs.Trees.{scalar}
use Rattle.yaml_block.proofs.Nodes.{node_tree-scalar}
use Rattle.yaml_block.proofs.Building.{map_more}
use Rattle.yaml_block.proofs.build.items_in.Goals as goal

pub loop-text-preserved : goal.loop-text-preserved
loop-text-preserved c =
    c.in_ok-push.ensures.ok
    ∙ ap₂ (λ xs x. xs ++ (c.args.line, x) ∷ []) c.loop-text.invariant (node_tree-scalar _ ∙ ap scalar c.in_ok-copy.ensures)
    ∙ sym (map_more (λ text. (c.args.line, scalar text)) c.args.texts.now c.loop-text.text-index c.text-item.result c.loop-text-test.true c.text-item.is)
