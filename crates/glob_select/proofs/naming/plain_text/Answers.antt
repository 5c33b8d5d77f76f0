use Rattle.std.proofs.Common.{sym}
use Rattle.glob_select.proofs.PlainItems.{plain-more, plain-done}
use Rattle.glob_select.proofs.naming.plain_text.Goals as goal

pub loop-token-preserved : goal.loop-token-preserved
loop-token-preserved c = plain-more _ _ _ _ _ (sym c.in-Some.ensures.read) c.in_ok-add_plain.ensures c.loop-token.invariant

pub returns : goal.returns
returns c = plain-done _ _ _ (sym c.in_default.ensures.read) c.loop-token.invariant
