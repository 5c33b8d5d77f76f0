-- The page, and the steps that are left, are the whole text.
use Rattle.std.proofs.Common.{◌≡◌, ◌++◌, drop}
use Rattle.std.specs.List.{flat_map}
use Rattle.pac_fault.specs.FaultTexts.{step_behind}
use Rattle.pac_fault.proofs.fault_text.push_steps.Given as goal

abbrev pub invariant-loop-step : goal.invariant-loop-step
invariant-loop-step l = l.page ++ flat_map step_behind (drop l.step-index l.steps) ≡ l.fn.page ++ flat_map step_behind l.steps
