use Rattle.std.proofs.Common.{length}
use Rattle.frag_eval.specs.Courses.{left_of}
use Rattle.frag_eval.proofs.Coursing.{SaidUpTo}
use Rattle.frag_eval.proofs.course.Course.say_all.Given as goal

abbrev pub invariant-loop-said : goal.invariant-loop-said
invariant-loop-said l = SaidUpTo l.fn.self l.self

abbrev pub decreases-loop-said : goal.decreases-loop-said
decreases-loop-said l = length (left_of l.self)
