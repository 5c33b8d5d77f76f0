-- The steps before the index are told.
use Rattle.std.proofs.Common.{◌≡◌, take}
use Rattle.overlap_sweep.specs.Sought.{plain_way}
use Rattle.overlap_sweep.proofs.overlap.told_in.Given as goal

abbrev pub invariant-loop-step : goal.invariant-loop-step
invariant-loop-step l = l.path ≡ plain_way (take l.step-index l.way)
