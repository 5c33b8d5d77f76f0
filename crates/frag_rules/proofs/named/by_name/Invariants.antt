use Rattle.std.proofs.Common.{length}
use Rattle.frag_rules.proofs.ByName.{FindsBefore}
use Rattle.frag_rules.proofs.named.by_name.Given as goal

abbrev pub invariant-loop-first : goal.invariant-loop-first
invariant-loop-first g l = FindsBefore g.T.HasName.name_of l.named l.rest l.fn.items

abbrev pub decreases-loop-first : goal.decreases-loop-first
decreases-loop-first g l = length l.rest
