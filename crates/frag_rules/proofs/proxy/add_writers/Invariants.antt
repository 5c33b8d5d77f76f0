use Rattle.std.proofs.Common.{length, map}
use Rattle.frag_sem.specs.ProxyTypes.{writer_type}
use Rattle.frag_rules.specs.Keys.{key_of, types_seen}
use Rattle.frag_rules.proofs.Keys.{AddedSoFar}
use Rattle.frag_rules.proofs.proxy.add_writers.Given as goal

abbrev pub invariant-loop-first : goal.invariant-loop-first
invariant-loop-first l = AddedSoFar (types_seen l.fn.types) (types_seen l.types) (map (λ writer. key_of (writer_type writer)) l.rest) (map (λ writer. key_of (writer_type writer)) l.fn.writers)

abbrev pub decreases-loop-first : goal.decreases-loop-first
decreases-loop-first l = length l.rest
