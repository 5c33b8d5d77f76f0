use Rattle.std.proofs.Common.{◌≡◌, ◌++◌}
use Rattle.frag_tree.specs.Parts.{spaces}
use Rattle.frag_tree.proofs.line.push_deep_indent.Given as goal

abbrev pub invariant-loop-level : goal.invariant-loop-level
invariant-loop-level l = l.page ≡ l.fn.page ++ spaces l.level
