use Rattle.frag_words.specs.Words.{words_in}
use Rattle.frag_parts.proofs.Same.{slot_same}
use Rattle.frag_parts.proofs.production.SlotsProductionSlot.read.Goals as goal

pub returns : goal.returns
returns c = rw (slot_same (words_in c.args.text.now)) c.slot.ensures
