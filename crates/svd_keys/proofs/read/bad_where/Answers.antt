use Rattle.std.proofs.Common.{refl}
use Rattle.svd_text.specs.Views.{element_of}
use Rattle.svd_keys.specs.Earliest.{least}
use Rattle.svd_keys.specs.Values.{bad_value}
use Rattle.svd_keys.proofs.Loops.{one_fault}
use Rattle.svd_keys.proofs.read.bad_where.Goals as goal

pub returns-then-bad : goal.returns-then-bad
returns-then-bad c = rw c.if-bad.true (one_fault c.bad_value.result (bad_value c.args.kind (element_of c.args.found.now)) c.bad_value.ensures)

pub returns-else-bad : goal.returns-else-bad
unfolding least
returns-else-bad c = rw c.if-bad.false refl
