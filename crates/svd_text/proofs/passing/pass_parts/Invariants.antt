use Rattle.std.proofs.Common.{◌≡◌, ◌≤◌, length}
use Rattle.svd_text.specs.Frames.{passing_of}
use Rattle.svd_text.specs.Machine.{run, parts_of}
use Rattle.svd_text.specs.Reading.{checking, passing}
use Rattle.svd_text.proofs.passing.pass_parts.Given as goal

abbrev pub invariant-loop-rest : goal.invariant-loop-rest
invariant-loop-rest l = (run checking (parts_of l.rest) (passing_of l.passing) ≡ run checking (parts_of l.fn.body) passing) × (length l.rest ≤ 67108864)

abbrev pub decreases-loop-rest : goal.decreases-loop-rest
decreases-loop-rest l = length l.rest
