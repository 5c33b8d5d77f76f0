use Rattle.std.proofs.Common.{◌≡◌, ◌++◌, map, drop}
use Rattle.frag_words.specs.Lines.{lines_text}
use Rattle.frag_tree.proofs.line.push_each.Given as goal

abbrev pub invariant-loop-item : goal.invariant-loop-item
invariant-loop-item g l =
    l.page ++ lines_text (map (g.T.OneLine.line_at l.depth) (drop l.item-index l.items)) ≡ l.fn.page ++ lines_text (map (g.T.OneLine.line_at l.depth) l.items)
