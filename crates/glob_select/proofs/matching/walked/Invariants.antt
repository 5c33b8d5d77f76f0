use Rattle.std.proofs.Common.{◌≡◌, ◌≤◌, length}
use Rattle.glob_select.specs.Reading.{items_of}
use Rattle.glob_select.specs.Walking.{walk}
use Rattle.glob_select.proofs.matching.walked.Given as goal

abbrev pub invariant-loop-token : goal.invariant-loop-token
invariant-loop-token l = (walk (items_of l.left) l.rest ≡ walk (items_of l.items) l.name) × (length l.left ≤ length l.items)

abbrev pub decreases-loop-token : goal.decreases-loop-token
decreases-loop-token l = length l.left
