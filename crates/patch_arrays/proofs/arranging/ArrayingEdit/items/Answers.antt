-- The items as the children of a peripheral or cluster.
use Rattle.std.proofs.Common.{map}
use Rattle.patch_arrays.proofs.Edits.{edited-in}
use Rattle.patch_arrays.specs.Arranging.{arrayed_below}
use Rattle.svd_model.specs.Trees.{item_under}
use Rattle.patch_arrays.proofs.arranging.ArrayingEdit.items.Goals as goal

pub returns-clause-in_peripheral : goal.returns-clause-in_peripheral
unfolding arrayed_below
returns-clause-in_peripheral c =
    edited-in c.args.self.now.line c.args.self.now.pattern.now c.args.self.now.name.now (map item_under c.args.items.now.items) (map item_under c.arrange_items.new.items.items) c.arrange_items.result c.arrange_items.ensures.edited

pub returns-clause-in_cluster : goal.returns-clause-in_cluster
unfolding arrayed_below
returns-clause-in_cluster c =
    edited-in c.args.self.now.line c.args.self.now.pattern.now c.args.self.now.name.now (map item_under c.args.items.now.items) (map item_under c.arrange_items.new.items.items) c.arrange_items.result c.arrange_items.ensures.edited
