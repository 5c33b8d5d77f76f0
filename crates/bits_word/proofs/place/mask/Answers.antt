use Rattle.bits_word.proofs.Bits.{mask-shift}
use Rattle.bits_word.proofs.place.mask.Goals as goal

pub returns : goal.returns
returns c = rw c.ones.ensures (mask-shift c.args.offset c.args.width 64 c.requires.within)
