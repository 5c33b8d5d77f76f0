use Rattle.std.proofs.Common.{◌∙◌, sym}
use Rattle.frag_script.proofs.Lines.{is_comment, from_stop-here, from_stop-later, from_stop-end, stop_fits, taken_before, all_before, before_comment-is}
use Rattle.frag_script.proofs.line.before_comment.Goals as goal

pub overflow_sub-line : goal.overflow_sub-line
overflow_sub-line c =
    let here = from_stop-here is_comment c.loop-first.rest.now c.in-Some.first.now c.in-Some.after.now c.in-Some.ensures.cases.0 (sym c.if-is_comment.ensures) in
    stop_fits is_comment c.args.line.now c.loop-first.rest.now (sym c.loop-first.invariant ∙ here)

pub returns-then-is_comment : goal.returns-then-is_comment
returns-then-is_comment c =
    let here = from_stop-here is_comment c.loop-first.rest.now c.in-Some.first.now c.in-Some.after.now c.in-Some.ensures.cases.0 (sym c.if-is_comment.ensures) in
    c.split_at.ensures.front ∙ (taken_before is_comment c.args.line.now c.loop-first.rest.now (sym c.loop-first.invariant ∙ here) ∙ before_comment-is c.args.line.now)

pub loop-first-preserved : goal.loop-first-preserved
loop-first-preserved c =
    sym (from_stop-later is_comment c.loop-first.rest.now c.in-Some.first.now c.in-Some.after.now c.in-Some.ensures.cases.0 (sym c.if-is_comment.ensures)) ∙ c.loop-first.invariant

pub returns : goal.returns
returns c =
    all_before is_comment c.args.line.now (sym c.loop-first.invariant ∙ from_stop-end is_comment c.loop-first.rest.now c.in_default.ensures.cases) ∙ before_comment-is c.args.line.now
