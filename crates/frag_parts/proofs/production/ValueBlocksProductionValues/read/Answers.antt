use Rattle.frag_words.specs.Words.{words_in}
use Rattle.frag_parts.proofs.Same.{values_same}
use Rattle.frag_parts.proofs.production.ValueBlocksProductionValues.read.Goals as goal

pub returns : goal.returns
returns c = rw (values_same (words_in c.args.text.now)) c.values.ensures
