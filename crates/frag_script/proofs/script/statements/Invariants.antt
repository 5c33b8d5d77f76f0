use Rattle.std.proofs.Common.{◌≡◌, ◌≤◌, ◌+◌, length}
use Rattle.frag_script.specs.Reading.{outcome, lines_at, lines_left, script_at}
use Rattle.frag_script.proofs.Scripts.{left_now}
use Rattle.frag_script.proofs.script.statements.Given as goal

abbrev pub invariant-loop-left : goal.invariant-loop-left
invariant-loop-left l = record {
  read : outcome l.met.kept l.met.count (lines_at (l.line + 1) (lines_left (left_now l.left))) ≡ script_at l.bytes;
  fits : l.line + length (lines_left (left_now l.left)) ≤ length l.bytes + 1;
  counted : l.met.count ≤ l.line;
}

abbrev pub decreases-loop-left : goal.decreases-loop-left
decreases-loop-left l = length (lines_left (left_now l.left))
