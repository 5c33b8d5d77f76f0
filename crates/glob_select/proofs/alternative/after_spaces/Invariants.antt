use Rattle.std.proofs.Common.{◌≡◌, length}
use Rattle.text_scan.specs.Fronts.{rest_of}
use Rattle.glob_select.specs.Bytes.{is_space}
use Rattle.glob_select.proofs.alternative.after_spaces.Given as goal

abbrev pub invariant-loop-rest : goal.invariant-loop-rest
invariant-loop-rest l = rest_of is_space l.rest ≡ rest_of is_space l.text

abbrev pub decreases-loop-rest : goal.decreases-loop-rest
decreases-loop-rest l = length l.rest
