use Rattle.std.proofs.Common.{Err, ap}
use Rattle.frag_token.proofs.Tokens.{named-yes, named-no}
use Rattle.frag_token.proofs.token.named.Goals as goal

pub returns-in-Ok : goal.returns-in-Ok
returns-in-Ok c = named-yes c.args.word.now c.in-Ok.name c.in-Ok.ensures.ok.0 c.in-Ok.ensures.ok.1

pub returns-in-Err-NotAnIdentifier : goal.returns-in-Err-NotAnIdentifier
returns-in-Err-NotAnIdentifier c = named-no c.args.word.now (c.in-Err-NotAnIdentifier.ensures.refused.0 (ap Err c.in-Err-NotAnIdentifier.field-0-is))
