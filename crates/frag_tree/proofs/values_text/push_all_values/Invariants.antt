use Rattle.std.proofs.Common.{◌≡◌, ◌++◌, drop}
use Rattle.std.specs.List.{flat_map}
use Rattle.frag_words.specs.Lines.{lines_text}
use Rattle.frag_tree.specs.Registers.{values_lines}
use Rattle.frag_tree.proofs.values_text.push_all_values.Given as goal

abbrev pub invariant-loop-block : goal.invariant-loop-block
invariant-loop-block l =
    l.page ++ lines_text (flat_map (values_lines l.depth) (drop l.block-index l.blocks)) ≡ l.fn.page ++ lines_text (flat_map (values_lines l.depth) l.blocks)
