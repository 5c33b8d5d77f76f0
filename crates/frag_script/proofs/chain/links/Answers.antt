use Rattle.std.proofs.lemmas.Result.{err_from_is_err_and}
use Rattle.frag_script.specs.Reading.{chain_part_at, run_at}
use Rattle.frag_script.specs.Tokens.{tokens_in}
use Rattle.frag_script.proofs.Runs.{fails, goes_on, is_done, part_is}
use Rattle.frag_script.proofs.TakenValues.{chain_part_shrinks}
use Rattle.frag_script.proofs.chain.links.Goals as goal

pub returns-in_err-part : goal.returns-in_err-part
returns-in_err-part c =
    let fault = err_from_is_err_and c.from_residual.result c.from_residual.ensures.1 in
    rw (fault.1, fault.2) (fails chain_part_at c.loop-links.links (tokens_in c.loop-links.rest.now) (run_at chain_part_at (tokens_in c.args.text.now)) c.in_err-part.field-0.0 c.in_err-part.ensures c.loop-links.invariant)

pub returns-in-End : goal.returns-in-End
returns-in-End c =
    is_done chain_part_at chain_part_shrinks c.loop-links.links tt (tokens_in c.loop-links.rest.now) (tokens_in c.in_ok-part.after.now) (run_at chain_part_at (tokens_in c.args.text.now)) (part_is _ c.in_ok-part.part _ _ c.in_ok-part.ensures c.in-End.is) c.loop-links.invariant

pub loop-links-smaller : goal.loop-links-smaller
loop-links-smaller c = chain_part_shrinks (tokens_in c.loop-links.rest.now) c.in_ok-part.part (tokens_in c.in_ok-part.after.now) c.in_ok-part.ensures

pub loop-links-preserved : goal.loop-links-preserved
loop-links-preserved c =
    rw (c.in_ok-push-in-Item.ensures.ok) (goes_on chain_part_at chain_part_shrinks c.loop-links.links c.in-Item.link (tokens_in c.loop-links.rest.now) (tokens_in c.in_ok-part.after.now) (run_at chain_part_at (tokens_in c.args.text.now)) (part_is _ c.in_ok-part.part _ _ c.in_ok-part.ensures c.in-Item.is) c.loop-links.invariant)
