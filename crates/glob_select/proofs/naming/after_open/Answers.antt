use Rattle.std.proofs.Common.{sym, ◌∙◌}
use Rattle.glob_select.proofs.PlainItems.{opened-more, opened-same, opened-none}
use Rattle.glob_select.proofs.naming.after_open.Goals as goal

pub returns-then-is_open : goal.returns-then-is_open
returns-then-is_open c = sym c.loop-token.invariant ∙ opened-more _ _ (sym c.in-Some.ensures.read) (sym c.if-is_open.ensures)

pub loop-token-preserved : goal.loop-token-preserved
loop-token-preserved c = sym (opened-same _ _ (sym c.in-Some.ensures.read) (sym c.if-is_open.ensures)) ∙ c.loop-token.invariant

pub returns : goal.returns
returns c = sym c.loop-token.invariant ∙ opened-none _ (sym c.in_default.ensures.read)
