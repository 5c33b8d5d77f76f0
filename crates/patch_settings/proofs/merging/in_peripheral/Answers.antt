use Rattle.patch_settings.proofs.MergedKeys.{peripheral-merged}
use Rattle.patch_settings.proofs.merging.in_peripheral.Goals as goal

pub returns-clause-keys : goal.returns-clause-keys
returns-clause-keys c =
    peripheral-merged c.args.settings c.args.peripheral.now
    (record { derived = c.put.new.place; dim = c.put_dim.new.dim; base = c.replace_number.new.place; props = c.put_props.new.props; children = c.args.peripheral.now.children })
    c.put.ensures c.put_dim.ensures c.replace_number.ensures c.put_props.ensures
