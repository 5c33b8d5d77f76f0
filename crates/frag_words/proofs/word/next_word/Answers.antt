use Rattle.std.proofs.Common.{◌∙◌, sym}
use Rattle.frag_words.proofs.Words.{gap_passed, word_found, no_word}
use Rattle.frag_words.proofs.word.next_word.Goals as goal

pub loop-first-preserved : goal.loop-first-preserved
loop-first-preserved c =
    gap_passed c.loop-first.rest.now c.in-Some.first.now c.in-Some.others.now c.in-Gap.more c.split_at.result.1.now c.in-Some.ensures.cases.0 c.in-Gap.ensures.same c.split_at.ensures.back ∙ c.loop-first.invariant

pub returns-in-Word : goal.returns-in-Word
returns-in-Word c =
    sym c.loop-first.invariant
    ∙ word_found c.loop-first.rest.now c.in-Some.first.now c.in-Some.others.now c.in-Word.more c.split_at-in-Word.result.1.now c.split_at-in-Word-2.result.0.now c.in-Some.ensures.cases.0 c.in-Word.ensures.within c.in-Word.ensures.same c.split_at-in-Word.ensures.back c.split_at-in-Word-2.ensures.front

pub returns : goal.returns
returns c = sym c.loop-first.invariant ∙ no_word c.loop-first.rest.now c.in_default.ensures.cases
