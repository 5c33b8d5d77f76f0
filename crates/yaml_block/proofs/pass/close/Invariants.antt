use Rattle.std.proofs.Common.{◌≡◌, length}
use Rattle.std.specs.Prelude.{reverse}
use Rattle.yaml_block.specs.Passing.{down_to}
use Rattle.yaml_block.proofs.pass.close.Given as goal

abbrev pub invariant-loop-top : goal.invariant-loop-top
invariant-loop-top l = down_to l.indent l.top (reverse l.outer.items) ≡ down_to l.indent l.initial.top (reverse l.initial.outer.items)

abbrev pub decreases-loop-top : goal.decreases-loop-top
decreases-loop-top l = length l.outer.items
