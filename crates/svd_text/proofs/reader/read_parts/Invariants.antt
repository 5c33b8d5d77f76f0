use Rattle.std.proofs.Common.{◌≡◌, ◌≤◌, length}
use Rattle.svd_text.specs.Frames.{state_of}
use Rattle.svd_text.specs.Machine.{run, parts_of}
use Rattle.svd_text.specs.Reading.{building, beginning}
use Rattle.svd_text.proofs.reader.read_parts.Given as goal

abbrev pub invariant-loop-rest : goal.invariant-loop-rest
invariant-loop-rest l = (run (building l.total) (parts_of l.rest) (state_of l.reader) ≡ run (building l.fn.total) (parts_of l.fn.body) beginning) × (length l.rest ≤ 67108864)

abbrev pub decreases-loop-rest : goal.decreases-loop-rest
decreases-loop-rest l = length l.rest
