use Rattle.patch_settings.proofs.MergedKeys.{field-merged}
use Rattle.patch_settings.proofs.merging.in_field.Goals as goal

pub returns-clause-keys : goal.returns-clause-keys
returns-clause-keys c =
    field-merged c.args.settings c.args.field.now
    (record { derived = c.put.new.place; dim = c.put_dim.new.dim; place = record { offset = c.put-2.new.place; width = c.put-3.new.place }; access = c.put-4.new.place; kind = c.put-5.new.place; action = c.put-6.new.place; values = c.args.field.now.values })
    c.put.ensures c.put_dim.ensures c.put-2.ensures c.put-3.ensures c.put-4.ensures c.put-5.ensures c.put-6.ensures
