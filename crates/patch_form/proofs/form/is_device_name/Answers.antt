use Rattle.std.proofs.Common.{arith}
use Rattle.std.proofs.lemmas.Grind.{common_steps}
use Rattle.patch_form.proofs.Deciding.{device_decides}
use Rattle.patch_form.proofs.form.is_device_name.Goals as goal

pub returns : goal.returns
returns c = device_decides c.args.text.now c.is_printed_text.result (grind (arith, common_steps, c.is_empty.ensures, c.if-is_empty.false)) (omega arith) c.is_printed_text.ensures
