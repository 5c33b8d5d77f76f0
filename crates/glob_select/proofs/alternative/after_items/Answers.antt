use Rattle.std.proofs.Common.{sym, ◌∙◌}
use Rattle.glob_select.proofs.Items.{after_items-some, after_items-none}
use Rattle.glob_select.proofs.alternative.after_items.Goals as goal

pub loop-after-preserved : goal.loop-after-preserved
loop-after-preserved c = sym (after_items-some _ _ (sym c.in-Some.ensures.read)) ∙ c.loop-after.invariant

pub returns : goal.returns
returns c = sym (after_items-none _ (sym c.in_default.ensures.read)) ∙ c.loop-after.invariant
