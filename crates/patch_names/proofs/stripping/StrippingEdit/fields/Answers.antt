-- What is left of the fields.
use Rattle.std.proofs.Common.{refl, Some}
use Rattle.patch_names.proofs.Stripped.{map-stripped, strip-evens}
use Rattle.patch_names.specs.Renaming.{entry_name, stripped_below, stripped_entry}
use Rattle.svd_model.specs.Trees.{field_under}
use Rattle.patch_edits.proofs.Recounting.{recounts-even}
use Rattle.patch_edits.specs.Edits.{below_register}
use Rattle.svd_model.specs.Steps.{register}
use Rattle.patch_names.proofs.stripping.StrippingEdit.fields.Goals as goal

pub returns-clause-edited : goal.returns-clause-edited
unfolding stripped_below
returns-clause-edited c =
    map-stripped field_under entry_name (λ entry. refl) c.args.self.now.line c.args.self.now.prefix.now (stripped_entry c.args.self.now.prefix.now) (λ entry. refl) c.args.fields.now.entries c.strip_map.new.entries.entries c.strip_map.result c.strip_map.ensures

pub returns-clause-counted : goal.returns-clause-counted
returns-clause-counted c =
    recounts-even below_register (stripped_below c.args.self.now.line c.args.self.now.prefix.now) (strip-evens c.args.self.now.line c.args.self.now.prefix.now) (Some register) c.args._total.now c.args.fields.now.entries c.strip_map.new.entries.entries c.strip_map.result (returns-clause-edited c)
