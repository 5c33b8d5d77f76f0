use Rattle.std.proofs.Common.{length}
use Rattle.frag_eval.proofs.Setting.{SetUpTo}
use Rattle.frag_eval.proofs.preset.set_all.Given as goal

abbrev pub invariant-loop-preset : goal.invariant-loop-preset
invariant-loop-preset g l = SetUpTo (g.B.Bus.told l.fn.bus) (g.B.Bus.told l.bus) l.fn.presets l.rest

abbrev pub decreases-loop-preset : goal.decreases-loop-preset
decreases-loop-preset g l = length l.rest
