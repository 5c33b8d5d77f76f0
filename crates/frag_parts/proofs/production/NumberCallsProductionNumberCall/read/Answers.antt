use Rattle.frag_words.specs.Words.{words_in}
use Rattle.frag_parts.proofs.Same.{number_calls_same}
use Rattle.frag_parts.proofs.production.NumberCallsProductionNumberCall.read.Goals as goal

pub returns : goal.returns
returns c = rw (number_calls_same c.args.self.now.reads (words_in c.args.text.now)) c.number_call.ensures
