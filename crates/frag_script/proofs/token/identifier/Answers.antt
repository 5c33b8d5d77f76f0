use Rattle.std.proofs.Common.{Err, ap}
use Rattle.frag_script.proofs.TokenWords.{name-end, name-yes, name-no}
use Rattle.frag_script.proofs.token.identifier.Goals as goal

pub returns-in_default : goal.returns-in_default
returns-in_default c = name-end c.args.text.now c.in_default.ensures

pub returns-in-Ok : goal.returns-in-Ok
returns-in-Ok c = name-yes c.args.text.now c.in-Some.word.now c.in-Some.rest.now c.in-Ok.name c.in-Some.ensures c.in-Ok.ensures.ok.0 c.in-Ok.ensures.ok.1

pub returns-in-Err-NotAnIdentifier : goal.returns-in-Err-NotAnIdentifier
returns-in-Err-NotAnIdentifier c = name-no c.args.text.now c.in-Some.word.now c.in-Some.rest.now c.in-Some.ensures (c.in-Err-NotAnIdentifier.ensures.refused.0 (ap Err c.in-Err-NotAnIdentifier.field-0-is))
