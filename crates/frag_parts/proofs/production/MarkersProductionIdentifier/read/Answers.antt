use Rattle.frag_words.specs.Words.{words_in}
use Rattle.frag_parts.proofs.Same.{marker_same}
use Rattle.frag_parts.proofs.production.MarkersProductionIdentifier.read.Goals as goal

pub returns : goal.returns
returns c = rw (marker_same (words_in c.args.text.now)) c.marker.ensures
