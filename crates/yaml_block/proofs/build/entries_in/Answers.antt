use Rattle.std.proofs.Common.{ℕ, List, [], ◌∷◌, ◌++◌, ap, ap₂, sym, ◌∙◌}
use Rattle.yaml_block.specs.Nodes.{entries_under}
use Rattle.yaml_block.specs.Trees.{Tree, scalar}
use Rattle.yaml_block.proofs.Nodes.{node_tree-scalar}
use Rattle.yaml_block.proofs.Building.{map_more}
use Rattle.yaml_block.proofs.build.entries_in.Goals as goal

pub loop-pair-preserved : goal.loop-pair-preserved
loop-pair-preserved c =
    let entered : (ℕ × List ℕ × Tree) → List (ℕ × List ℕ × Tree) = λ entry. entries_under c.loop-pair.entries ++ entry ∷ [] in
    c.in_ok-push.ensures.ok
    ∙ ap₂ (λ key tree. entered (c.args.line, key, tree)) c.in_ok-key.ensures (node_tree-scalar _ ∙ ap scalar c.in_ok-copy.ensures)
    ∙ ap (λ made. made ++ (c.args.line, c.pair-item.result.0, scalar c.pair-item.result.1) ∷ []) c.loop-pair.invariant
    ∙ sym (map_more (λ pair. (c.args.line, pair.0, scalar pair.1)) c.args.pairs.now c.loop-pair.pair-index c.pair-item.result c.loop-pair-test.true c.pair-item.is)
