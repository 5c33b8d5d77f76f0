use Rattle.std.proofs.Common.{length}
use Rattle.frag_rules.specs.Keys.{key_seen}
use Rattle.frag_index.proofs.Calling.{KeptSoFar}
use Rattle.frag_index.proofs.calls.keep_all.Given as goal

abbrev pub invariant-loop-first : goal.invariant-loop-first
invariant-loop-first g l = KeptSoFar (key_seen l.fn.on) g.T.HasName.name_of l.fn.held l.held l.rest l.fn.calls

abbrev pub decreases-loop-first : goal.decreases-loop-first
decreases-loop-first g l = length l.rest
