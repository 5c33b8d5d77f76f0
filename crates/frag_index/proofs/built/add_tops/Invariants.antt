use Rattle.std.proofs.Common.{length}
use Rattle.frag_index.proofs.Adding.{TopsSoFar}
use Rattle.frag_index.proofs.built.add_tops.Given as goal

abbrev pub invariant-loop-first : goal.invariant-loop-first
invariant-loop-first l = TopsSoFar l.tops l.rest l.fn.blocks

abbrev pub decreases-loop-first : goal.decreases-loop-first
decreases-loop-first l = length l.rest
