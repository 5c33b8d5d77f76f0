use Rattle.std.proofs.Common.{◌≡◌, ◌++◌, length}
use Rattle.glob_select.proofs.PlainItems.{plain}
use Rattle.glob_select.proofs.naming.plain_text.Given as goal

abbrev pub invariant-loop-token : goal.invariant-loop-token
invariant-loop-token l = l.made.items ++ plain l.rest ≡ plain l.items

abbrev pub decreases-loop-token : goal.decreases-loop-token
decreases-loop-token l = length l.rest
