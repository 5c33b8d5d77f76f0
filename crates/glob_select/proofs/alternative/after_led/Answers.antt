use Rattle.std.proofs.Common.{sym, ◌∙◌}
use Rattle.glob_select.proofs.Alternatives.{after_led-some, after_led-none}
use Rattle.glob_select.proofs.alternative.after_led.Goals as goal

pub loop-after-preserved : goal.loop-after-preserved
loop-after-preserved c = sym (after_led-some _ _ (sym c.in-Some.ensures.read)) ∙ c.loop-after.invariant

pub returns : goal.returns
returns c = sym (after_led-none _ (sym c.in_default.ensures.read)) ∙ c.loop-after.invariant
