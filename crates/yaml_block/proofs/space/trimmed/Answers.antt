use Rattle.std.proofs.Common.{arith, ◌∙◌}
use Rattle.std.proofs.lemmas.Bool.{eq-eqb, ne_eqb}
use Rattle.std.proofs.lemmas.List.{nil_from_length}
use Rattle.yaml_block.proofs.Trimming.{trimmed-less, trimmed-same, trimmed-nothing}
use Rattle.yaml_block.proofs.space.trimmed.Goals as goal

pub loop-rest-preserved : goal.loop-rest-preserved
loop-rest-preserved c = trimmed-less c.loop-rest.rest.now (omega arith) (eq-eqb _ _ c.if-last-ne32.false) ∙ c.loop-rest.invariant

pub returns-in_default : goal.returns-in_default
returns-in_default c = trimmed-nothing c.loop-rest.rest.now (nil_from_length c.loop-rest.rest.now (omega arith)) ∙ c.loop-rest.invariant

pub returns-then-last-ne32 : goal.returns-then-last-ne32
returns-then-last-ne32 c = trimmed-same c.loop-rest.rest.now (omega arith) (ne_eqb _ _ c.if-last-ne32.true) ∙ c.loop-rest.invariant
