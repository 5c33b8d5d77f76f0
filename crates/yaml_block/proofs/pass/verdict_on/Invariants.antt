use Rattle.std.proofs.Common.{◌≡◌, drop}
use Rattle.yaml_block.specs.Passing.{state_of, start, verdict}
use Rattle.yaml_block.proofs.pass.verdict_on.Given as goal

abbrev pub invariant-loop-line : goal.invariant-loop-line
invariant-loop-line l = verdict (state_of l.pass) (drop l.line-index l.lines) ≡ verdict start l.lines
