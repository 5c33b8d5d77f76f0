-- The rest is a name, or the name stays.
use Rattle.std.proofs.Common.{Err, ap}
use Rattle.patch_names.proofs.Stripped.{rest-isnt, rest-none, rest-some}
use Rattle.patch_names.proofs.naming.rest_of.Goals as goal

pub returns-in_default : goal.returns-in_default
returns-in_default c = rest-none c.args.prefix.now c.args.name.now c.bytes.result.now c.bytes.ensures.same c.in_default.ensures

pub returns-in-Ok : goal.returns-in-Ok
returns-in-Ok c = rest-some c.args.prefix.now c.args.name.now c.bytes.result.now c.in-Some.rest.now c.in-Ok.made c.bytes.ensures.same c.in-Some.ensures c.in-Ok.ensures.ok.0 c.in-Ok.ensures.ok.1

pub returns-in-Err-NotAName : goal.returns-in-Err-NotAName
returns-in-Err-NotAName c = rest-isnt c.args.prefix.now c.args.name.now c.bytes.result.now c.in-Some.rest.now c.bytes.ensures.same c.in-Some.ensures (c.in-Err-NotAName.ensures.refused.0 (ap Err c.in-Err-NotAName.field-0-is))
