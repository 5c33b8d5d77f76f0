use Rattle.frag_eval.specs.Stages.{stage_seen}
use Rattle.frag_eval.proofs.Stepping.{RunUpTo, steps_left}
use Rattle.frag_eval.proofs.running.run.Given as goal

abbrev pub invariant-loop-stage : goal.invariant-loop-stage
invariant-loop-stage g l = RunUpTo (g.B.Bus.told l.fn.bus) (g.B.Bus.told l.bus) l.fn.ready (stage_seen l.stage)

abbrev pub decreases-loop-stage : goal.decreases-loop-stage
decreases-loop-stage g l = steps_left (g.B.Bus.told l.fn.bus).spare (stage_seen l.stage)
