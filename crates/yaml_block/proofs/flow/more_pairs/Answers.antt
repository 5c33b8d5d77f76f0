use Rattle.std.proofs.Common.{[], ◌∷◌, sym}
use Rattle.std.proofs.lemmas.Result.{err_from_is_err_and}
use Rattle.text_scan.proofs.Lists.{goes_on, is_done}
use Rattle.yaml_block.specs.Spaces.{starts}
use Rattle.yaml_block.specs.Reading.{with_front}
use Rattle.yaml_block.specs.Values.{next_pair_at, more_pairs_at}
use Rattle.yaml_block.proofs.Loops.{ends}
use Rattle.yaml_block.proofs.Shrinking.{next_pair_shrinks}
use Rattle.yaml_block.proofs.flow.more_pairs.Goals as goal

pub returns-in_err-next : goal.returns-in_err-next
returns-in_err-next c =
    let fault = err_from_is_err_and c.from_residual-in_err-next.result c.from_residual-in_err-next.ensures.1 in
    rw (fault.1, fault.2) (ends (starts 44) next_pair_at next_pair_shrinks c.in_err-next.field-0.0 c.pairs.pairs c.pairs.rest.now (with_front (c.args.first ∷ []) (more_pairs_at c.args.text.now))
    (sym c.pairs-test.ensures) c.in_err-next.ensures c.pairs.invariant)

pub pairs-smaller : goal.pairs-smaller
pairs-smaller c = next_pair_shrinks c.pairs.rest.now (c.in_ok-next.next, c.in_ok-next.after.now) c.in_ok-next.ensures

pub pairs-preserved : goal.pairs-preserved
pairs-preserved c =
    rw c.in_ok-push-2.ensures.ok (goes_on (starts 44) next_pair_at next_pair_shrinks c.pairs.pairs c.pairs.rest.now c.in_ok-next.next c.in_ok-next.after.now (with_front (c.args.first ∷ []) (more_pairs_at c.args.text.now))
    (sym c.pairs-test.ensures) c.in_ok-next.ensures c.pairs.invariant)

pub returns : goal.returns
returns c =
    is_done (starts 44) next_pair_at next_pair_shrinks c.pairs.pairs c.pairs.rest.now (with_front (c.args.first ∷ []) (more_pairs_at c.args.text.now)) (sym c.pairs-test.ensures) c.pairs.invariant
