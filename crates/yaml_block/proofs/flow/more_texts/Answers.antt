use Rattle.std.proofs.Common.{[], ◌∷◌, sym}
use Rattle.std.proofs.lemmas.Result.{err_from_is_err_and}
use Rattle.text_scan.proofs.Lists.{goes_on, is_done}
use Rattle.yaml_block.specs.Spaces.{starts}
use Rattle.yaml_block.specs.Reading.{with_front}
use Rattle.yaml_block.specs.Values.{next_text_at, more_texts_at}
use Rattle.yaml_block.proofs.Loops.{ends}
use Rattle.yaml_block.proofs.Shrinking.{next_text_shrinks}
use Rattle.yaml_block.proofs.flow.more_texts.Goals as goal

pub returns-in_err-next : goal.returns-in_err-next
returns-in_err-next c =
    let fault = err_from_is_err_and c.from_residual-in_err-next.result c.from_residual-in_err-next.ensures.1 in
    rw (fault.1, fault.2) (ends (starts 44) next_text_at next_text_shrinks c.in_err-next.field-0.0 c.texts.texts c.texts.rest.now (with_front (c.args.first ∷ []) (more_texts_at c.args.text.now))
    (sym c.texts-test.ensures) c.in_err-next.ensures c.texts.invariant)

pub texts-smaller : goal.texts-smaller
texts-smaller c = next_text_shrinks c.texts.rest.now (c.in_ok-next.next, c.in_ok-next.after.now) c.in_ok-next.ensures

pub texts-preserved : goal.texts-preserved
texts-preserved c =
    rw c.in_ok-push-2.ensures.ok (goes_on (starts 44) next_text_at next_text_shrinks c.texts.texts c.texts.rest.now c.in_ok-next.next c.in_ok-next.after.now (with_front (c.args.first ∷ []) (more_texts_at c.args.text.now))
    (sym c.texts-test.ensures) c.in_ok-next.ensures c.texts.invariant)

pub returns : goal.returns
returns c =
    is_done (starts 44) next_text_at next_text_shrinks c.texts.texts c.texts.rest.now (with_front (c.args.first ∷ []) (more_texts_at c.args.text.now)) (sym c.texts-test.ensures) c.texts.invariant
