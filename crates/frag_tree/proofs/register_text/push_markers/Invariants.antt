use Rattle.std.proofs.Common.{◌≡◌, ◌++◌, map, drop}
use Rattle.frag_words.specs.Lines.{lines_text}
use Rattle.frag_tree.specs.Registers.{marker_line}
use Rattle.frag_tree.proofs.register_text.push_markers.Given as goal

abbrev pub invariant-loop-marker : goal.invariant-loop-marker
invariant-loop-marker l =
    l.page ++ lines_text (map (marker_line l.depth) (drop l.marker-index l.markers)) ≡ l.fn.page ++ lines_text (map (marker_line l.depth) l.markers)
