use Rattle.std.proofs.Common.{length}
use Rattle.frag_rules.proofs.Sizes.{TopsSoFar}
use Rattle.frag_rules.proofs.range.measure_tops.Given as goal

abbrev pub invariant-loop-first : goal.invariant-loop-first
invariant-loop-first l = TopsSoFar l.tops l.sizes.large l.fn.sizes.large l.rest l.fn.krate.blocks.items

abbrev pub decreases-loop-first : goal.decreases-loop-first
decreases-loop-first l = length l.rest
