use Rattle.std.proofs.Common.{arith}
use Rattle.frag_eval.proofs.Words.{none_taken}
use Rattle.frag_eval.proofs.word.taken.Goals as goal

pub returns-then-offset-ge64 : goal.returns-then-offset-ge64
returns-then-offset-ge64 c = none_taken c.args.word c.args.offset c.args.mask c.if-offset-ge64.true (omega (arith, c.ranges.word.fits))
