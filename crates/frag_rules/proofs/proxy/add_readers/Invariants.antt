use Rattle.std.proofs.Common.{length, map}
use Rattle.frag_sem.specs.ProxyTypes.{reader_type}
use Rattle.frag_rules.specs.Keys.{key_of, types_seen}
use Rattle.frag_rules.proofs.Keys.{AddedSoFar}
use Rattle.frag_rules.proofs.proxy.add_readers.Given as goal

abbrev pub invariant-loop-first : goal.invariant-loop-first
invariant-loop-first l = AddedSoFar (types_seen l.fn.types) (types_seen l.types) (map (λ reader. key_of (reader_type reader)) l.rest) (map (λ reader. key_of (reader_type reader)) l.fn.readers)

abbrev pub decreases-loop-first : goal.decreases-loop-first
decreases-loop-first l = length l.rest
