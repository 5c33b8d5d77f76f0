use Rattle.std.proofs.Common.{◌∙◌, sym, eq-eqb, arith}
use Rattle.std.proofs.lemmas.Bool.Decides.{nat_tests}
use Rattle.frag_script.proofs.Lines.{is_feed, from_stop-here, from_stop-later, from_stop-end, stop_fits, line_ends, last_line}
use Rattle.frag_script.proofs.line.split_line.Goals as goal

pub overflow_sub-text : goal.overflow_sub-text
overflow_sub-text c =
    let here = from_stop-here is_feed c.loop-first.rest.now c.in-Some.first.now c.in-Some.after.now c.in-Some.ensures.cases.0 (eq-eqb c.in-Some.first.now 10 c.if-first-eq10.true) in
    stop_fits is_feed c.args.text.now c.loop-first.rest.now (sym c.loop-first.invariant ∙ here)

pub returns-then-first-eq10 : goal.returns-then-first-eq10
returns-then-first-eq10 c =
    let here = from_stop-here is_feed c.loop-first.rest.now c.in-Some.first.now c.in-Some.after.now c.in-Some.ensures.cases.0 (eq-eqb c.in-Some.first.now 10 c.if-first-eq10.true) in
    line_ends c.args.text.now c.loop-first.rest.now c.in-Some.first.now c.in-Some.after.now c.split_at.result.0.now (sym c.loop-first.invariant ∙ here) c.in-Some.ensures.cases.0 c.split_at.ensures.front

pub loop-first-preserved : goal.loop-first-preserved
loop-first-preserved c =
    sym (from_stop-later is_feed c.loop-first.rest.now c.in-Some.first.now c.in-Some.after.now c.in-Some.ensures.cases.0 (grind (arith, nat_tests, c.if-first-eq10.false))) ∙ c.loop-first.invariant

pub returns : goal.returns
returns c = last_line c.args.text.now (sym c.loop-first.invariant ∙ from_stop-end is_feed c.loop-first.rest.now c.in_default.ensures.cases)
