use Rattle.std.proofs.Common.{sym}
use Rattle.frag_token.proofs.Numerals.{hexadecimal_bare, hexadecimal_no, hexadecimal_none, hexadecimal_yes}
use Rattle.frag_token.proofs.numeral.hexadecimal_of.Goals as goal

pub returns-in_default : goal.returns-in_default
returns-in_default c = hexadecimal_bare c.args.word.now (sym c.in_default.ensures)

pub returns-in_default-number : goal.returns-in_default-number
returns-in_default-number c = hexadecimal_none c.args.word.now c.in-Some.digits.now (sym c.in-Some.ensures) (sym c.in_default-number.ensures)

pub returns-then-branch : goal.returns-then-branch
returns-then-branch c = hexadecimal_yes c.args.word.now c.in-Some.digits.now c.in-Some-number.number c.in_ok-is_hexadecimal.field-0 (sym c.in-Some.ensures) (sym c.in-Some-number.ensures) c.in_ok-is_hexadecimal.ensures (sym c.if-branch.true)

pub returns-else-branch : goal.returns-else-branch
returns-else-branch c = hexadecimal_no c.args.word.now c.in-Some.digits.now c.in-Some-number.number c.in_ok-is_hexadecimal.field-0 (sym c.in-Some.ensures) (sym c.in-Some-number.ensures) c.in_ok-is_hexadecimal.ensures (sym c.if-branch.false)
