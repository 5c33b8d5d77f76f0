-- The steps before the index are copied.
use Rattle.std.proofs.Common.{◌≡◌, take}
use Rattle.derive_from.proofs.path.copied.Given as goal

abbrev pub invariant-loop-step : goal.invariant-loop-step
invariant-loop-step l = l.made ≡ take l.step-index l.step-items
