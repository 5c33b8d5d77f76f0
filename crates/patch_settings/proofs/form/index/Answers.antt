use Rattle.std.proofs.Common.{ap, Err}
use Rattle.svd_keys.proofs.IndexLists.{index-again, index-none}
use Rattle.patch_settings.proofs.form.index.Goals as goal

pub returns-in-Ok : goal.returns-in-Ok
returns-in-Ok c = index-again c.args.text.now c.in-Ok.index c.in-Ok.ensures.ok

pub returns-in-Err-NotAnIndex : goal.returns-in-Err-NotAnIndex
returns-in-Err-NotAnIndex c = index-none c.args.text.now (c.in-Err-NotAnIndex.ensures.refused (ap Err c.in-Err-NotAnIndex.field-0-is))
