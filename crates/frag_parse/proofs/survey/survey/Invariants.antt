use Rattle.std.proofs.Common.{length}
use Rattle.frag_words.specs.Words.{words_in}
use Rattle.frag_parse.proofs.SurveySteps.{SoFar}
use Rattle.frag_parse.proofs.survey.survey.Given as goal

abbrev pub invariant-loop-rest : goal.invariant-loop-rest
invariant-loop-rest l = SoFar l.version l.unclosed (words_in l.rest) (words_in l.text)

abbrev pub decreases-loop-rest : goal.decreases-loop-rest
decreases-loop-rest l = length (words_in l.rest)
