use Rattle.patch_settings.proofs.MergedKeys.{device-merged}
use Rattle.patch_settings.proofs.merging.in_device.Goals as goal

pub returns-clause-keys : goal.returns-clause-keys
returns-clause-keys c =
    device-merged c.args.settings c.args.device.now
    (record { name = c.replace.new.place; props = c.put_props.new.props; peripherals = c.args.device.now.peripherals })
    c.replace.ensures c.put_props.ensures
