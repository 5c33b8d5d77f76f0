use Rattle.std.proofs.Common.{◌-◌, ◌<◌, ◌^◌, w64, arith}
use Rattle.bits_word.proofs.Bits.{start-bits, start_below}
use Rattle.bits_word.proofs.place.start.Goals as goal

pub returns-clause-bits : goal.returns-clause-bits
returns-clause-bits c =
    let small : c.args.one < 2 ^ 64 = omega arith in
    start-bits w64 c.args.word c.args.one c.args.zero small

pub returns-clause-below : goal.returns-clause-below
returns-clause-below c bits word_below zero_below =
    start_below c.args.word (18446744073709551615 - c.args.one) c.args.zero bits word_below zero_below
