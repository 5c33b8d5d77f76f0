use Rattle.frag_eval.proofs.Words.{all_lost}
use Rattle.frag_eval.proofs.word.shifted_up.Goals as goal

pub returns-then-offset-ge64 : goal.returns-then-offset-ge64
returns-then-offset-ge64 c = all_lost c.args.width c.args.word c.args.offset c.if-offset-ge64.true
