use Rattle.std.proofs.Common.{Some, ap, ◌∙◌}
use Rattle.patch_form.proofs.Coding.{device-none, device-some}
use Rattle.patch_form.proofs.table.device_key.Goals as goal

pub returns-in-None : goal.returns-in-None
returns-in-None c = device-none c.args.key.now c.device_code.result c.device_code.ensures c.in-None.is

pub returns-in-Some : goal.returns-in-Some
returns-in-Some c = ap Some c.kind_at.ensures ∙ device-some c.args.key.now c.device_code.result c.in-Some.code c.device_code.ensures c.in-Some.is
