use Rattle.std.proofs.Common.{◌≡◌, length}
use Rattle.frag_script.proofs.Lines.{from_stop, is_feed}
use Rattle.frag_script.proofs.line.split_line.Given as goal

abbrev pub invariant-loop-first : goal.invariant-loop-first
invariant-loop-first l = from_stop is_feed l.rest ≡ from_stop is_feed l.text

abbrev pub decreases-loop-first : goal.decreases-loop-first
decreases-loop-first l = length l.rest
