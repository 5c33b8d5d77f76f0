use Rattle.std.proofs.Common.{◌≡◌, length}
use Rattle.glob_select.proofs.PlainItems.{opened}
use Rattle.glob_select.proofs.naming.after_open.Given as goal

abbrev pub invariant-loop-token : goal.invariant-loop-token
invariant-loop-token l = opened l.rest ≡ opened l.items

abbrev pub decreases-loop-token : goal.decreases-loop-token
decreases-loop-token l = length l.rest
