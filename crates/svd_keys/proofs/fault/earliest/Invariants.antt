use Rattle.std.proofs.Common.{◌≡◌, length}
use Rattle.svd_keys.specs.Earliest.{earlier, earliest}
use Rattle.svd_keys.proofs.fault.earliest.Given as goal

abbrev pub invariant-loop-rest : goal.invariant-loop-rest
invariant-loop-rest l = earlier l.first (earliest l.rest) ≡ earliest l.faults

abbrev pub decreases-loop-rest : goal.decreases-loop-rest
decreases-loop-rest l = length l.rest
