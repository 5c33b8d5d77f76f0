use Rattle.std.proofs.Common.{◌≡◌, length}
use Rattle.glob_select.specs.Reading.{items_of}
use Rattle.glob_select.specs.Walking.{first_walk}
use Rattle.glob_select.proofs.matching.first_walk.Given as goal

abbrev pub invariant-loop-after : goal.invariant-loop-after
invariant-loop-after l = first_walk (items_of l.items) l.from ≡ first_walk (items_of l.items) l.name

abbrev pub decreases-loop-after : goal.decreases-loop-after
decreases-loop-after l = length l.from
