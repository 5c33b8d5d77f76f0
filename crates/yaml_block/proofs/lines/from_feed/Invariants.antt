use Rattle.std.proofs.Common.{◌≡◌, length}
use Rattle.text_scan.specs.Fronts.{rest_of}
use Rattle.yaml_block.specs.Lines.{is_no_feed}
use Rattle.yaml_block.proofs.lines.from_feed.Given as goal

abbrev pub invariant-loop-rest : goal.invariant-loop-rest
invariant-loop-rest l = rest_of is_no_feed l.rest ≡ rest_of is_no_feed l.text

abbrev pub decreases-loop-rest : goal.decreases-loop-rest
decreases-loop-rest l = length l.rest
