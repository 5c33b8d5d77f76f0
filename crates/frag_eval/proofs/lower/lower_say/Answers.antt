use Rattle.frag_eval.proofs.Growing.{say_grows}
use Rattle.frag_eval.proofs.lower.lower_say.Goals as goal

pub returns : goal.returns
returns c = say_grows c.args.lowering.now c.push.new.self c.args.value.now c.operand-value.result c.requires c.in_ok-push.ensures.items c.operand-value.ensures
