use Rattle.std.proofs.Common.{◌≡◌, ◌++◌, map, drop}
use Rattle.std.specs.List.{flat_map}
use Rattle.frag_words.specs.Lines.{piece_text}
use Rattle.frag_tree.specs.Parts.{piece_of}
use Rattle.frag_tree.proofs.line.push_parts.Given as goal

abbrev pub invariant-loop-part : goal.invariant-loop-part
invariant-loop-part l =
    l.page ++ flat_map piece_text (map piece_of (drop l.part-index l.parts)) ≡ l.fn.page ++ flat_map piece_text (map piece_of l.parts)
