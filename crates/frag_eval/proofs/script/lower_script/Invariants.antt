use Rattle.std.proofs.Common.{length}
use Rattle.frag_tree.specs.Trees.{crate_tree}
use Rattle.frag_eval.proofs.Scripts.{LoweredUpTo}
use Rattle.frag_eval.proofs.script.lower_script.Given as goal

abbrev pub invariant-loop-line : goal.invariant-loop-line
invariant-loop-line l = LoweredUpTo (crate_tree l.fn.index.krate.now) l.fn.script.lines l.rest l.lowering

abbrev pub decreases-loop-line : goal.decreases-loop-line
decreases-loop-line l = length l.rest
