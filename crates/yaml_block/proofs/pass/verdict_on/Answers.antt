use Rattle.std.proofs.Common.{◌∙◌, arith}
use Rattle.yaml_block.specs.Passing.{state_of}
use Rattle.yaml_block.proofs.Verdicts.{verdict-goes_on, verdict-stops, verdict-done}
use Rattle.yaml_block.proofs.pass.verdict_on.Goals as goal

pub returns-then-not-branch : goal.returns-then-not-branch
returns-then-not-branch c =
    verdict-stops c.args.lines.now c.loop-line.line-index c.line-item.result c.loop-line-test.true c.line-item.is (state_of c.loop-line.pass) (rw c.if-not-branch.true at c.in_ok-take_in.ensures) ∙ c.loop-line.invariant

pub loop-line-preserved : goal.loop-line-preserved
loop-line-preserved c =
    verdict-goes_on c.args.lines.now c.loop-line.line-index c.line-item.result c.loop-line-test.true c.line-item.is (state_of c.loop-line.pass) (state_of c.take_in.new.self) (rw c.if-not-branch.false at c.in_ok-take_in.ensures) ∙ c.loop-line.invariant

pub returns : goal.returns
returns c = verdict-done c.args.lines.now c.loop-line.line-index (state_of c.loop-line.pass) (omega arith) ∙ c.loop-line.invariant
