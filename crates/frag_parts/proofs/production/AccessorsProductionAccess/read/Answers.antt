use Rattle.frag_words.specs.Words.{words_in}
use Rattle.frag_parts.proofs.Same.{access_same}
use Rattle.frag_parts.proofs.production.AccessorsProductionAccess.read.Goals as goal

pub returns : goal.returns
returns c = rw (access_same (words_in c.args.text.now)) c.access.ensures
