use Rattle.std.proofs.Common.{◌≡◌, length}
use Rattle.glob_select.specs.Reading.{after_members}
use Rattle.glob_select.proofs.member.after_members.Given as goal

abbrev pub invariant-loop-after : goal.invariant-loop-after
invariant-loop-after l = after_members l.rest ≡ after_members l.text

abbrev pub decreases-loop-after : goal.decreases-loop-after
decreases-loop-after l = length l.rest
