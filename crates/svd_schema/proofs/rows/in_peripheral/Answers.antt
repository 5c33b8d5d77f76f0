use Rattle.std.proofs.Common.{◌∙◌}
use Rattle.std.specs.Str.{bytes_eq}
use Rattle.svd_schema.specs.declared.container.Container.TheVariants.{Peripheral}
use Rattle.svd_schema.specs.Table.{row_of}
use Rattle.svd_schema.proofs.Lookup.{located}
use Rattle.svd_schema.proofs.rows.in_peripheral.Goals as goal

pub returns : goal.returns
unfolding row_of
returns c = c.value_in.ensures ∙ located (bytes_eq c.args.name.now) (row_of Peripheral)
