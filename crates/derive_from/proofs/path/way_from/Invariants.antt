-- The names that are listed, and those of the path that is left, are those of the whole path.
use Rattle.std.proofs.Common.{◌≡◌, ◌++◌, reverse}
use Rattle.derive_from.proofs.Ways.{path_here}
use Rattle.derive_from.specs.Refusals.{told_names}
use Rattle.derive_sources.specs.Numbers.{path_at}
use Rattle.derive_sources.proofs.Seats.{depth}
use Rattle.derive_from.proofs.path.way_from.Given as goal

abbrev pub invariant-loop-here : goal.invariant-loop-here
invariant-loop-here g l = told_names (path_here g.all l.here) ++ reverse l.way.items ≡ told_names (path_at g.all l.number)

abbrev pub decreases-loop-here : goal.decreases-loop-here
decreases-loop-here g l = depth l.here
