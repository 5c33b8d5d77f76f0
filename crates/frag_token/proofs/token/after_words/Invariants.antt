use Rattle.std.proofs.Common.{◌≡◌, length}
use Rattle.frag_words.specs.Words.{words_in}
use Rattle.frag_token.specs.Reading.{expects}
use Rattle.frag_token.proofs.token.after_words.Given as goal

abbrev pub invariant-loop-word : goal.invariant-loop-word
invariant-loop-word l = expects (words_in l.wanted) (words_in l.rest) ≡ expects (words_in l.words) (words_in l.text)

abbrev pub decreases-loop-word : goal.decreases-loop-word
decreases-loop-word l = length (words_in l.wanted)
