use Rattle.std.proofs.Common.{◌≡◌, length}
use Rattle.std.specs.List.{list_any}
use Rattle.glob_select.specs.Matching.{has}
use Rattle.glob_select.specs.Reading.{members_of}
use Rattle.glob_select.proofs.member.any_has.Given as goal

abbrev pub invariant-loop-member : goal.invariant-loop-member
invariant-loop-member l = list_any (has l.byte) (members_of l.rest) ≡ list_any (has l.byte) (members_of l.members)

abbrev pub decreases-loop-member : goal.decreases-loop-member
decreases-loop-member l = length l.rest
