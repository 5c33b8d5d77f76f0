-- The first that meets the member, among those of its block, is the first among those of the ranks that are left.
use Rattle.std.proofs.Common.{◌≡◌, ◌≤◌, take, drop, length}
use Rattle.std.specs.List.{find}
use Rattle.overlap_sweep.specs.Search.{block_of, kept_in}
use Rattle.overlap_sweep.specs.Spots.{meets}
use Rattle.overlap_sweep.proofs.search.seek.Given as goal

abbrev pub invariant-loop-rank : goal.invariant-loop-rank
invariant-loop-rank l = record {
  left : find (λ entry. meets entry.1 l.spot) (kept_in (block_of l.spot) (take l.place l.spots)) ≡ find (λ entry. meets entry.1 l.spot) (drop l.rank (kept_in (block_of l.spot) (take l.place l.spots)));
  within : l.rank ≤ length (kept_in (block_of l.spot) (take l.place l.spots));
}
