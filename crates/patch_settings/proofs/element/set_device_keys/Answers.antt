use Rattle.patch_settings.proofs.Elements.{device-set}
use Rattle.patch_settings.proofs.element.set_device_keys.Goals as goal

pub returns : goal.returns
returns c = device-set c.args.keys.now _ c.args.device.now c.in_device.new.device c.in_ok-of.ensures c.in_device.ensures.keys c.in_device.ensures.below
