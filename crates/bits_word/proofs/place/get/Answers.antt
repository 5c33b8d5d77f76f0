use Rattle.bits_word.proofs.Bits.{get-and}
use Rattle.bits_word.proofs.place.get.Goals as goal

pub returns : goal.returns
returns c = rw c.ones.ensures (get-and c.args.word c.args.offset c.args.width)
