use Rattle.std.proofs.Common.{◌∙◌, ap, sym, eq-eqb, arith}
use Rattle.std.proofs.lemmas.Bool.Decides.{nat_tests}
use Rattle.frag_script.specs.ScriptLines.{without_return}
use Rattle.frag_script.proofs.Lines.{return_dropped, return_kept, return_none}
use Rattle.frag_script.proofs.line.without_return.Goals as goal

pub returns-then-last-eq13 : goal.returns-then-last-eq13
returns-then-last-eq13 c = sym (ap without_return c.in-Some.ensures.cases.0 ∙ return_dropped c.in-Some.before.now c.in-Some.last.now (eq-eqb c.in-Some.last.now 13 c.if-last-eq13.true))

pub returns-else-last-eq13 : goal.returns-else-last-eq13
returns-else-last-eq13 c = c.in-Some.ensures.cases.0 ∙ sym (ap without_return c.in-Some.ensures.cases.0 ∙ return_kept c.in-Some.before.now c.in-Some.last.now (grind (arith, nat_tests, c.if-last-eq13.false)))

pub returns-in-None : goal.returns-in-None
returns-in-None c = return_none c.args.line.now c.in-None.ensures.cases
