use Rattle.bits_word.proofs.Bits.{ones-shift}
use Rattle.register_form.proofs.field.ones.Goals as goal

pub returns : goal.returns
returns c = ones-shift c.args.bits c.requires.some c.requires.most
