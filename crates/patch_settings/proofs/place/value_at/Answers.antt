use Rattle.std.proofs.Common.{sym, ◌∙◌, arith}
use Rattle.patch_settings.proofs.LookingUp.{found-here, none-left, not-here}
use Rattle.patch_settings.proofs.place.value_at.Goals as goal

pub returns-then-is_key : goal.returns-then-is_key
returns-then-is_key c =
    found-here c.args.name.now c.args.keys.now c.loop-entry.entry-index c.entry-item.result c.loop-entry-test.true c.entry-item.is (sym c.is_key.ensures ∙ c.if-is_key.true) ∙ c.loop-entry.invariant

pub loop-entry-preserved : goal.loop-entry-preserved
loop-entry-preserved c =
    not-here c.args.name.now c.args.keys.now c.loop-entry.entry-index c.entry-item.result c.loop-entry-test.true c.entry-item.is (sym c.is_key.ensures ∙ c.if-is_key.false) ∙ c.loop-entry.invariant

pub returns : goal.returns
returns c = none-left c.args.name.now c.args.keys.now c.loop-entry.entry-index (omega arith) ∙ c.loop-entry.invariant
