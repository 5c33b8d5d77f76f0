use Rattle.std.proofs.Common.{◌≡◌, [], length}
use Rattle.yaml_block.specs.Building.{built_behind, built_in}
use Rattle.yaml_block.proofs.build.built.Given as goal

abbrev pub invariant-lines : goal.invariant-lines
invariant-lines l = built_behind l.rest (built_in l.runs.items) ≡ built_behind l.lines []

abbrev pub decreases-lines : goal.decreases-lines
decreases-lines l = length l.rest
