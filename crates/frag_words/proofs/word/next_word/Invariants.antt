use Rattle.std.proofs.Common.{◌≡◌, length}
use Rattle.frag_words.specs.Words.{words_in}
use Rattle.frag_words.proofs.word.next_word.Given as goal

abbrev pub invariant-loop-first : goal.invariant-loop-first
invariant-loop-first l = words_in l.rest ≡ words_in l.text

abbrev pub decreases-loop-first : goal.decreases-loop-first
decreases-loop-first l = length l.rest
