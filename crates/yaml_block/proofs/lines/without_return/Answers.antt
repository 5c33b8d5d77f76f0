use Rattle.std.proofs.Common.{arith}
use Rattle.std.proofs.lemmas.Bool.{eq-eqb, ne_eqb}
use Rattle.std.proofs.lemmas.List.{nil_from_length}
use Rattle.yaml_block.proofs.Cutting.{return-less, return-same, return-none}
use Rattle.yaml_block.proofs.lines.without_return.Goals as goal

pub returns-in-empty : goal.returns-in-empty
returns-in-empty c = return-none c.args.line.now (nil_from_length c.args.line.now (omega (arith, c.in-empty.len_below)))

pub returns-then-last-eq13 : goal.returns-then-last-eq13
returns-then-last-eq13 c = return-less c.args.line.now (omega (arith, c.in-len1-up.len_at_least)) (eq-eqb _ _ c.if-last-eq13.true)

pub returns-else-last-eq13 : goal.returns-else-last-eq13
returns-else-last-eq13 c = return-same c.args.line.now (omega (arith, c.in-len1-up.len_at_least)) (ne_eqb _ _ c.if-last-eq13.false)
