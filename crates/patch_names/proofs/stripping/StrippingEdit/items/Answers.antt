-- What is left of the items.
use Rattle.std.proofs.Common.{Some}
use Rattle.patch_names.proofs.Stripped.{list-stripped, strip-evens}
use Rattle.patch_names.specs.Renaming.{item_name, stripped_below}
use Rattle.svd_model.proofs.Trees.{item_under-name}
use Rattle.svd_model.specs.Trees.{item_under}
use Rattle.patch_edits.proofs.Recounting.{recounts-even}
use Rattle.patch_edits.specs.Edits.{below_block}
use Rattle.svd_model.specs.Steps.{peripheral}
use Rattle.patch_names.proofs.stripping.StrippingEdit.items.Goals as goal

pub returns-clause-in_peripheral : goal.returns-clause-in_peripheral
unfolding stripped_below
returns-clause-in_peripheral c =
    list-stripped item_under item_name item_under-name c.args.self.now.line c.args.self.now.prefix.now c.args.items.now.items c.strip_list.new.items.items c.strip_list.result c.strip_list.ensures

pub returns-clause-in_cluster : goal.returns-clause-in_cluster
unfolding stripped_below
returns-clause-in_cluster c =
    list-stripped item_under item_name item_under-name c.args.self.now.line c.args.self.now.prefix.now c.args.items.now.items c.strip_list.new.items.items c.strip_list.result c.strip_list.ensures

pub returns-clause-counted : goal.returns-clause-counted
returns-clause-counted c =
    recounts-even below_block (stripped_below c.args.self.now.line c.args.self.now.prefix.now) (strip-evens c.args.self.now.line c.args.self.now.prefix.now) (Some peripheral) c.args._total.now c.args.items.now.items c.strip_list.new.items.items c.strip_list.result (returns-clause-in_peripheral c)
