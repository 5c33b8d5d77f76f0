use Rattle.frag_words.specs.Words.{words_in}
use Rattle.frag_parts.proofs.Same.{truth_calls_same}
use Rattle.frag_parts.proofs.production.TruthCallsProductionTruthCall.read.Goals as goal

pub returns : goal.returns
returns c = rw (truth_calls_same c.args.self.now.reads (words_in c.args.text.now)) c.truth_call.ensures
