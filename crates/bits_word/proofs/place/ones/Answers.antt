use Rattle.bits_word.proofs.Bits.{ones-shift}
use Rattle.bits_word.proofs.place.ones.Goals as goal

pub returns : goal.returns
returns c = ones-shift c.args.width c.requires.some c.requires.within
