-- The first pair of all is the first of those whose second is still to come, and those before it are kept.
use Rattle.std.proofs.Common.{◌≡◌, take, drop, []}
use Rattle.overlap_sweep.specs.Search.{Keeps, first_pair}
use Rattle.overlap_sweep.specs.Spots.{meets}
use Rattle.overlap_sweep.proofs.search.first_meeting.Given as goal

abbrev pub invariant-loop-place : goal.invariant-loop-place
invariant-loop-place l = record {
  left : first_pair meets [] l.spots ≡ first_pair meets (take l.place l.spots) (drop l.place l.spots);
  keeps : Keeps (take l.place l.spots) l.seen.entries;
}
