use Rattle.frag_words.specs.Words.{words_in}
use Rattle.frag_parts.proofs.Same.{writer_same}
use Rattle.frag_parts.proofs.production.WritersProductionWriter.read.Goals as goal

pub returns : goal.returns
returns c = rw (writer_same c.args.self.now.version (words_in c.args.text.now)) c.writer.ensures
