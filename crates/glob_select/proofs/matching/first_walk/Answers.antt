use Rattle.std.proofs.Common.{sym, ◌∙◌}
use Rattle.glob_select.proofs.Walks.{first_found, first_moves, first_ends}
use Rattle.glob_select.proofs.matching.first_walk.Goals as goal

pub returns-in-Some-kept-clause-walk : goal.returns-in-Some-kept-clause-walk
returns-in-Some-kept-clause-walk c = first_found _ _ _ _ (sym c.in-Some-kept.ensures.walk) c.loop-after.invariant

pub loop-after-preserved : goal.loop-after-preserved
loop-after-preserved c = first_moves _ c.loop-after.from.now _ _ _ c.in-Some.ensures.cases.0 (sym c.in_default-kept.ensures.walk) c.loop-after.invariant

pub returns-clause-walk : goal.returns-clause-walk
returns-clause-walk c = c.kept-2.ensures.walk ∙ first_ends _ _ _ c.in_default.ensures.cases c.loop-after.invariant
