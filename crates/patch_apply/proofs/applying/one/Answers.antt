use Rattle.patch_apply.proofs.Standing.{as_many}
use Rattle.patch_apply.proofs.applying.one.Goals as goal

pub returns-in-ModifyDevice-clause-counted : goal.returns-in-ModifyDevice-clause-counted
returns-in-ModifyDevice-clause-counted c = as_many c.args.device.now c.modify_device.new.device c.args.total.now c.modify_device.result c.modify_device.ensures.counted c.requires.counted
