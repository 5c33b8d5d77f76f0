use Rattle.std.proofs.Common.{length}
use Rattle.frag_words.specs.Words.{words_in}
use Rattle.frag_parse.specs.Reading.{blocks_at}
use Rattle.frag_parse.proofs.CrateSteps.{SoFar}
use Rattle.frag_parse.proofs.krate.blocks.Given as goal

abbrev pub invariant-loop-rest : goal.invariant-loop-rest
invariant-loop-rest l = SoFar l.version l.blocks.items (words_in l.rest) (blocks_at l.version (words_in l.text))

abbrev pub decreases-loop-rest : goal.decreases-loop-rest
decreases-loop-rest l = length (words_in l.rest)
