use Rattle.std.proofs.Common.{length}
use Rattle.frag_rules.specs.Insides.{is_there}
use Rattle.frag_rules.proofs.Insides.{KnowsBefore}
use Rattle.frag_rules.proofs.inside.inside_of.Given as goal

abbrev pub invariant-loop-first : goal.invariant-loop-first
invariant-loop-first l = KnowsBefore (λ known. known) is_there l.inside l.rest l.fn.modules

abbrev pub decreases-loop-first : goal.decreases-loop-first
decreases-loop-first l = length l.rest
