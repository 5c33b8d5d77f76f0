use Rattle.std.proofs.Common.{◌-◌, ◌<◌, ◌^◌, arith}
use Rattle.bits_word.proofs.Bits.{put-bits, put_below}
use Rattle.bits_word.proofs.place.put.Goals as goal

pub returns-clause-value : goal.returns-clause-value
returns-clause-value c =
    let small : c.args.word < 2 ^ 64 = omega arith in
    put-bits 64 c.args.word c.args.offset c.args.width c.args.value c.mask.result c.ones.result small c.requires.within c.mask.ensures c.ones.ensures

pub returns-clause-below : goal.returns-clause-below
returns-clause-below c bits word_below within =
    put_below c.args.word c.args.offset c.args.width c.args.value (18446744073709551615 - c.mask.result) c.ones.result bits c.requires.within c.ones.ensures word_below within
