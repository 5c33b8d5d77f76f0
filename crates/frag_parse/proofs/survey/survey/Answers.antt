use Rattle.std.proofs.Common.{arith, sym}
use Rattle.std.proofs.lemmas.Result.{err_from_is_err_and}
use Rattle.frag_words.specs.Words.{words_in}
use Rattle.frag_parse.proofs.SurveySteps.{survey_begun, survey_done, survey_fits, survey_off, survey_on, survey_smaller}
use Rattle.frag_parse.proofs.survey.survey.Goals as goal

pub loop-rest-init : goal.loop-rest-init
loop-rest-init c = survey_begun c.args.version (words_in c.args.text.now)

pub step-requires : goal.step-requires
step-requires c = survey_fits c.args.version c.loop-rest.unclosed c.args.total c.args.text.now (words_in c.loop-rest.rest.now) c.requires (omega (arith, c.ranges.total.fits)) c.loop-rest.invariant

pub returns-in_err-next : goal.returns-in_err-next
returns-in_err-next c =
    let fault = err_from_is_err_and c.from_residual.result c.from_residual.ensures.1 in
    rw (fault.1, fault.2) (survey_off c.args.version c.loop-rest.unclosed (words_in c.loop-rest.rest.now) (words_in c.args.text.now) c.in_err-next.field-0.0 (sym c.loop-rest-test.ensures) c.in_err-next.ensures c.loop-rest.invariant)

pub loop-rest-smaller : goal.loop-rest-smaller
loop-rest-smaller c = survey_smaller c.args.version c.loop-rest.unclosed c.in_ok-next.next (words_in c.loop-rest.rest.now) (words_in c.in_ok-next.after.now) c.in_ok-next.ensures

pub loop-rest-preserved : goal.loop-rest-preserved
loop-rest-preserved c = survey_on c.args.version c.loop-rest.unclosed c.in_ok-next.next (words_in c.loop-rest.rest.now) (words_in c.in_ok-next.after.now) (words_in c.args.text.now) (sym c.loop-rest-test.ensures) c.in_ok-next.ensures c.loop-rest.invariant

pub returns : goal.returns
returns c = survey_done c.args.version c.loop-rest.unclosed (words_in c.loop-rest.rest.now) (words_in c.args.text.now) (sym c.loop-rest-test.ensures) c.loop-rest.invariant
