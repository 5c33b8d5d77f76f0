use Rattle.patch_settings.proofs.MergedKeys.{register-merged}
use Rattle.patch_settings.proofs.merging.in_register.Goals as goal

pub returns-clause-keys : goal.returns-clause-keys
returns-clause-keys c =
    register-merged c.args.settings c.args.register.now
    (record { derived = c.put.new.place; dim = c.put_dim.new.dim; offset = c.replace.new.place; alternate = c.put-2.new.place; group = c.put-3.new.place; props = c.put_props.new.props; kind = c.put-4.new.place; action = c.put-5.new.place; fields = c.args.register.now.fields })
    c.put.ensures c.put_dim.ensures c.replace.ensures c.put-2.ensures c.put-3.ensures c.put_props.ensures c.put-4.ensures c.put-5.ensures
