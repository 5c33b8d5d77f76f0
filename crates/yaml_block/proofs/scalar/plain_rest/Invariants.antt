use Rattle.std.proofs.Common.{◌≡◌, length}
use Rattle.yaml_block.specs.Scalars.{plain_rest}
use Rattle.yaml_block.proofs.scalar.plain_rest.Given as goal

abbrev pub invariant-loop-rest : goal.invariant-loop-rest
invariant-loop-rest l = plain_rest l.place l.rest ≡ plain_rest l.place l.text

abbrev pub decreases-loop-rest : goal.decreases-loop-rest
decreases-loop-rest l = length l.rest
