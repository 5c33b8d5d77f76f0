-- The steps before the index are copied.
use Rattle.std.proofs.Common.{◌≡◌, take}
use Rattle.overlap_sweep.proofs.walk.copied_way.Given as goal

abbrev pub invariant-loop-step : goal.invariant-loop-step
invariant-loop-step l = l.made ≡ take l.step-index l.step-items
