use Rattle.std.proofs.lemmas.Result.{err_from_is_err_and}
use Rattle.frag_script.specs.Reading.{call_at, run_at}
use Rattle.frag_script.specs.Tokens.{tokens_in}
use Rattle.frag_script.proofs.Runs.{fails, goes_on, is_done, part_is}
use Rattle.frag_script.proofs.Taking.{call_shrinks}
use Rattle.frag_script.proofs.place.calls.Goals as goal

pub returns-in_err-part : goal.returns-in_err-part
returns-in_err-part c =
    let fault = err_from_is_err_and c.from_residual.result c.from_residual.ensures.1 in
    rw (fault.1, fault.2) (fails call_at c.loop-steps.steps (tokens_in c.loop-steps.rest.now) (run_at call_at (tokens_in c.args.text.now)) c.in_err-part.field-0.0 c.in_err-part.ensures c.loop-steps.invariant)

pub returns-in-End : goal.returns-in-End
returns-in-End c =
    is_done call_at call_shrinks c.loop-steps.steps c.in-End.ending (tokens_in c.loop-steps.rest.now) (tokens_in c.in_ok-part.after.now) (run_at call_at (tokens_in c.args.text.now)) (part_is _ c.in_ok-part.part _ _ c.in_ok-part.ensures c.in-End.is) c.loop-steps.invariant

pub loop-steps-smaller : goal.loop-steps-smaller
loop-steps-smaller c = call_shrinks (tokens_in c.loop-steps.rest.now) c.in_ok-part.part (tokens_in c.in_ok-part.after.now) c.in_ok-part.ensures

pub loop-steps-preserved : goal.loop-steps-preserved
loop-steps-preserved c =
    rw (c.in_ok-push-in-Item.ensures.ok) (goes_on call_at call_shrinks c.loop-steps.steps c.in-Item.step (tokens_in c.loop-steps.rest.now) (tokens_in c.in_ok-part.after.now) (run_at call_at (tokens_in c.args.text.now)) (part_is _ c.in_ok-part.part _ _ c.in_ok-part.ensures c.in-Item.is) c.loop-steps.invariant)
