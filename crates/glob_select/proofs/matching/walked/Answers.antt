use Rattle.std.proofs.Common.{sym, arith}
use Rattle.glob_select.proofs.Walks.{walk_goes_on, walk_breaks_off, walk_at_star, walk_ends}
use Rattle.glob_select.proofs.matching.walked.Goals as goal

pub returns-then-is_star-clause-walk : goal.returns-then-is_star-clause-walk
returns-then-is_star-clause-walk c = walk_at_star _ _ _ _ (sym c.in-Some.ensures.read) (sym c.if-is_star.ensures) c.loop-token.invariant.0

pub loop-token-preserved : goal.loop-token-preserved
loop-token-preserved c = (walk_goes_on _ _ _ _ _ (sym c.in-Some.ensures.read) (sym c.if-is_star.ensures) (sym c.in-Some-taken.ensures) c.loop-token.invariant.0, omega (arith, c.in-Some.ensures.shorter))

pub returns-clause-walk : goal.returns-clause-walk
returns-clause-walk c = walk_ends _ _ _ (sym c.in_default.ensures.read) c.loop-token.invariant.0

pub returns-in_default-taken-clause-walk : goal.returns-in_default-taken-clause-walk
returns-in_default-taken-clause-walk c = walk_breaks_off _ _ _ _ (sym c.in-Some.ensures.read) (sym c.if-is_star.ensures) (sym c.in_default-taken.ensures) c.loop-token.invariant.0
