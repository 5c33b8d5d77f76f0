use Rattle.std.proofs.Common.{Some, ap}
use Rattle.frag_script.proofs.TokenWords.{number-end, number-found, number-missing}
use Rattle.frag_script.proofs.token.number.Goals as goal

pub returns-in_default : goal.returns-in_default
returns-in_default c = ap Some (number-end c.args.text.now c.in_default.ensures)

pub returns-in-Some-2 : goal.returns-in-Some-2
returns-in-Some-2 c = ap Some (number-found c.args.text.now c.in-Some.word.now c.in-Some.rest.now c.in_ok-number.field-0 _ c.in-Some.ensures c.in_ok-number.ensures c.in-Some-2.is)

pub returns-in-None : goal.returns-in-None
returns-in-None c = ap Some (number-missing c.args.text.now c.in-Some.word.now c.in-Some.rest.now c.in_ok-number.field-0 c.in-Some.ensures c.in_ok-number.ensures c.in-None.is)
