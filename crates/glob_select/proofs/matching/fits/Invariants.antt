use Rattle.std.proofs.Common.{◌≡◌, length}
use Rattle.glob_select.specs.Reading.{items_of}
use Rattle.glob_select.specs.Matching.{fits}
use Rattle.glob_select.proofs.Stars.{StopsAtStar}
use Rattle.glob_select.proofs.matching.fits.Given as goal

abbrev pub invariant-loop-after : goal.invariant-loop-after
invariant-loop-after l = (fits (items_of l.left) l.rest ≡ fits (items_of l.items) l.name) × StopsAtStar (items_of l.left)

abbrev pub decreases-loop-after : goal.decreases-loop-after
decreases-loop-after l = length l.left
