use Rattle.std.proofs.Common.{◌≡◌, length}
use Rattle.frag_script.proofs.Lines.{from_stop, is_comment}
use Rattle.frag_script.proofs.line.before_comment.Given as goal

abbrev pub invariant-loop-first : goal.invariant-loop-first
invariant-loop-first l = from_stop is_comment l.rest ≡ from_stop is_comment l.line

abbrev pub decreases-loop-first : goal.decreases-loop-first
decreases-loop-first l = length l.rest
