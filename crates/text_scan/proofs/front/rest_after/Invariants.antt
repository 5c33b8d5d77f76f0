use Rattle.std.proofs.Common.{◌≡◌, length}
use Rattle.text_scan.specs.Classes.{has}
use Rattle.text_scan.specs.Fronts.{rest_of}
use Rattle.text_scan.proofs.front.rest_after.Given as goal

abbrev pub invariant-loop-rest : goal.invariant-loop-rest
invariant-loop-rest l = rest_of (has l.class) l.rest ≡ rest_of (has l.class) l.text

abbrev pub decreases-loop-rest : goal.decreases-loop-rest
decreases-loop-rest l = length l.rest
