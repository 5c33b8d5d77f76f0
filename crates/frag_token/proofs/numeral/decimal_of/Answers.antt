use Rattle.std.proofs.Common.{sym}
use Rattle.frag_token.proofs.Numerals.{decimal_no, decimal_none, decimal_yes}
use Rattle.frag_token.proofs.numeral.decimal_of.Goals as goal

pub returns-in_default : goal.returns-in_default
returns-in_default c = decimal_none c.args.word.now (sym c.in_default.ensures)

pub returns-then-branch : goal.returns-then-branch
returns-then-branch c = decimal_yes c.args.word.now c.in-Some.number c.in_ok-is_decimal.field-0 (sym c.in-Some.ensures) c.in_ok-is_decimal.ensures (sym c.if-branch.true)

pub returns-else-branch : goal.returns-else-branch
returns-else-branch c = decimal_no c.args.word.now c.in-Some.number c.in_ok-is_decimal.field-0 (sym c.in-Some.ensures) c.in_ok-is_decimal.ensures (sym c.if-branch.false)
