use Rattle.std.proofs.Common.{sym, ◌∙◌, arith}
use Rattle.patch_form.proofs.Placing.{at-here, at-other, at-none}
use Rattle.patch_form.proofs.place.at_key.Goals as goal

pub returns-then-is_key : goal.returns-then-is_key
returns-then-is_key c =
    at-here c.args.key.now c.args.entries.now c.loop-entry.entry-index c.entry-item.result c.loop-entry-test.true c.entry-item.is (sym c.is_key.ensures ∙ c.if-is_key.true) ∙ c.loop-entry.invariant

pub loop-entry-preserved : goal.loop-entry-preserved
loop-entry-preserved c =
    at-other c.args.key.now c.args.entries.now c.loop-entry.entry-index c.entry-item.result c.loop-entry-test.true c.entry-item.is (sym c.is_key.ensures ∙ c.if-is_key.false) ∙ c.loop-entry.invariant

pub returns : goal.returns
returns c = at-none c.args.key.now c.args.entries.now c.loop-entry.entry-index (omega arith) ∙ c.loop-entry.invariant
