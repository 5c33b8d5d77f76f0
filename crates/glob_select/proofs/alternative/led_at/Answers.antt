use Rattle.std.proofs.Common.{◌≤◌, length, arith}
use Rattle.std.proofs.lemmas.List.{length-take, length-drop}
use Rattle.glob_select.proofs.Alternatives.{left_no_longer}
use Rattle.glob_select.proofs.alternative.led_at.Goals as goal

pub returns-then-comma-eq44-clause-shorter : goal.returns-then-comma-eq44-clause-shorter
returns-then-comma-eq44-clause-shorter c =
    let here : length c.left_over.result.now ≤ length c.args.text.now = rw c.left_over.ensures (left_no_longer c.args.text.now) in
    simp (length-take, length-drop) (omega arith)
