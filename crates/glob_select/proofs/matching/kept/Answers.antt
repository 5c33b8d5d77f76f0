use Rattle.std.proofs.Common.{sym, ap, ◌∙◌}
use Rattle.glob_select.specs.Walking.{kept}
use Rattle.glob_select.proofs.Walks.{kept_at_star, not_kept_before_end}
use Rattle.glob_select.proofs.matching.kept.Goals as goal

pub returns-in-Some-clause-walk : goal.returns-in-Some-clause-walk
returns-in-Some-clause-walk c = kept_at_star _ _ _ (sym c.in-Some.ensures.read) ∙ ap kept c.in_ok-left.ensures.walk

pub returns-else-is_empty-clause-walk : goal.returns-else-is_empty-clause-walk
returns-else-is_empty-clause-walk c = not_kept_before_end _ _ (sym c.in_default.ensures.read) (sym c.if-is_empty.ensures) ∙ ap kept c.in_ok-left.ensures.walk
