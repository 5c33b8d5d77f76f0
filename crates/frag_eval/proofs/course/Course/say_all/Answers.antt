use Rattle.frag_eval.proofs.Coursing.{said_more}
use Rattle.frag_eval.proofs.course.Course.say_all.Goals as goal

pub loop-said-preserved : goal.loop-said-preserved
loop-said-preserved c = said_more c.args.self.now c.loop-said.self c.keep.new.self c.in-Some.said c.loop-said.invariant c.in-Some.ensures c.keep.ensures
