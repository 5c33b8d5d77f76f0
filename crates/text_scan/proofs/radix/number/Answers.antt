use Rattle.std.proofs.Common.{sym, ◌∙◌}
use Rattle.std.proofs.lemmas.Bool.{eqb-true}
use Rattle.text_scan.proofs.Numbers.{reads_on-number, number-empty}
use Rattle.text_scan.proofs.radix.number.Goals as goal

pub returns-then-is_empty : goal.returns-then-is_empty
returns-then-is_empty c = sym (number-empty c.args.radix c.args.digits.now (eqb-true _ _ (sym (c.if-is_empty.ensures))))

pub returns : goal.returns
returns c = c.read_on.ensures ∙ reads_on-number c.args.radix c.args.digits.now (sym (c.if-is_empty.ensures))
