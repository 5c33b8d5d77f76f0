-- The first of the members that are left is the first of all.
use Rattle.std.proofs.Common.{◌≡◌, drop}
use Rattle.overlap_sweep.specs.Sought.{shared_in}
use Rattle.overlap_sweep.proofs.overlap.field_overlap.Given as goal

abbrev pub invariant-loop-spot : goal.invariant-loop-spot
invariant-loop-spot l = shared_in l.spots ≡ shared_in (drop l.spot-index l.spots)
