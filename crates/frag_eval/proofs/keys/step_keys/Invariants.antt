use Rattle.std.proofs.Common.{◌≡◌, ◌++◌, length, map}
use Rattle.frag_eval.specs.Keys.{step_seen}
use Rattle.frag_eval.proofs.keys.step_keys.Given as goal

abbrev pub invariant-loop-step : goal.invariant-loop-step
invariant-loop-step l = map step_seen l.keys.items ++ l.rest ≡ l.fn.steps

abbrev pub decreases-loop-step : goal.decreases-loop-step
decreases-loop-step l = length l.rest
