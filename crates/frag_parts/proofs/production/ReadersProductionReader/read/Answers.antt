use Rattle.frag_words.specs.Words.{words_in}
use Rattle.frag_parts.proofs.Same.{reader_same}
use Rattle.frag_parts.proofs.production.ReadersProductionReader.read.Goals as goal

pub returns : goal.returns
returns c = rw (reader_same c.args.self.now.version (words_in c.args.text.now)) c.reader.ensures
