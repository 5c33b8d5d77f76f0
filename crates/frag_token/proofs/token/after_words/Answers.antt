use Rattle.std.proofs.lemmas.Result.{err_from_is_err_and}
use Rattle.frag_words.specs.Words.{words_in}
use Rattle.frag_token.specs.Reading.{expects}
use Rattle.frag_token.proofs.Tokens.{words_done, words_off, words_on}
use Rattle.frag_token.proofs.token.after_words.Goals as goal

pub returns-in_err-rest : goal.returns-in_err-rest
returns-in_err-rest c =
    let fault = err_from_is_err_and c.from_residual.result c.from_residual.ensures.1 in
    rw (fault.1, fault.2) (words_off (words_in c.loop-word.wanted.now) (words_in c.in-Some.others.now) (words_in c.loop-word.rest.now) c.in-Some.word.now (expects (words_in c.args.words.now) (words_in c.args.text.now)) c.in_err-rest.field-0.0 c.in-Some.ensures c.in_err-rest.ensures c.loop-word.invariant)

pub returns : goal.returns
returns c = words_done (words_in c.loop-word.wanted.now) (words_in c.loop-word.rest.now) (expects (words_in c.args.words.now) (words_in c.args.text.now)) c.in_default.ensures c.loop-word.invariant

pub loop-word-preserved : goal.loop-word-preserved
loop-word-preserved c = words_on (words_in c.loop-word.wanted.now) (words_in c.in-Some.others.now) (words_in c.loop-word.rest.now) (words_in c.in_ok-rest.rest.now) c.in-Some.word.now (expects (words_in c.args.words.now) (words_in c.args.text.now)) c.in-Some.ensures c.in_ok-rest.ensures c.loop-word.invariant
