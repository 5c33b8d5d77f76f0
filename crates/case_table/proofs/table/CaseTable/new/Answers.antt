use Rattle.std.proofs.Common.{arith, refl, sym, ◌∙◌}
use Rattle.case_table.proofs.Rising.{rises_more, first_fall, falls_not_rises, rises_while_below}
use Rattle.case_table.proofs.table.CaseTable.new.Goals as goal

pub returns-then-not-precedes-clause-first_fall : goal.returns-then-not-precedes-clause-first_fall
returns-then-not-precedes-clause-first_fall g c =
    first_fall c.args.rows.now c.loop-at.at _ (omega arith) c.loop-at-test.true c.loop-at.invariant (sym c.precedes.ensures ∙ c.if-not-precedes.true)

pub returns-then-not-precedes-clause-rising : goal.returns-then-not-precedes-clause-rising
returns-then-not-precedes-clause-rising g c =
    (λ e. cc, λ e. absurd (falls_not_rises _ _ (returns-then-not-precedes-clause-first_fall g c) e))

pub loop-at-preserved : goal.loop-at-preserved
loop-at-preserved g c =
    rises_more c.args.rows.now c.loop-at.at _ (omega arith) c.loop-at-test.true c.loop-at.invariant (sym c.precedes.ensures ∙ c.if-not-precedes.false)

pub invariant_of-result : goal.invariant_of-result
invariant_of-result g c = rises_while_below c.args.rows.now c.loop-at.at c.loop-at-test.false c.loop-at.invariant

pub returns-clause-rising : goal.returns-clause-rising
returns-clause-rising g c = (λ e. rises_while_below c.args.rows.now c.loop-at.at c.loop-at-test.false c.loop-at.invariant, λ e. refl)
