use Rattle.std.proofs.Common.{◌≡◌, ◌++◌, map, drop}
use Rattle.frag_words.specs.Lines.{lines_text}
use Rattle.frag_tree.specs.Registers.{number_call_line}
use Rattle.frag_tree.proofs.values_text.push_numbers.Given as goal

abbrev pub invariant-loop-call : goal.invariant-loop-call
invariant-loop-call l =
    l.page ++ lines_text (map (number_call_line l.depth l.reads) (drop l.call-index l.calls)) ≡ l.fn.page ++ lines_text (map (number_call_line l.depth l.reads) l.calls)
