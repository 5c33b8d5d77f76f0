use Rattle.std.proofs.Common.{inr}
use Rattle.std.proofs.lemmas.Bool.{both_ways}
use Rattle.patch_edits.proofs.Deleting.{deletes-none, deletes-some, is_item_matched, item_tells}
use Rattle.patch_edits.specs.Deletions.{deleted_below}
use Rattle.svd_model.specs.Trees.{item_under}
use Rattle.patch_edits.proofs.deletion.DeletionEdit.items.Goals as goal

pub returns-then-keep_other_items-clause-in_peripheral : goal.returns-then-keep_other_items-clause-in_peripheral
unfolding deleted_below
returns-then-keep_other_items-clause-in_peripheral c =
    inr (deletes-none c.args.self.now.line c.args.self.now.pattern.now item_under (is_item_matched c.args.self.now.pattern.now) (item_tells c.args.self.now.pattern.now) c.args.items.now.items c.keep_other_items.new.items.items c.keep_other_items.ensures.kept (c.keep_other_items.ensures.all.0 c.if-keep_other_items.true))

pub returns-then-keep_other_items-clause-in_cluster : goal.returns-then-keep_other_items-clause-in_cluster
unfolding deleted_below
returns-then-keep_other_items-clause-in_cluster c =
    inr (deletes-none c.args.self.now.line c.args.self.now.pattern.now item_under (is_item_matched c.args.self.now.pattern.now) (item_tells c.args.self.now.pattern.now) c.args.items.now.items c.keep_other_items.new.items.items c.keep_other_items.ensures.kept (c.keep_other_items.ensures.all.0 c.if-keep_other_items.true))

pub returns-clause-in_peripheral : goal.returns-clause-in_peripheral
unfolding deleted_below
returns-clause-in_peripheral c =
    deletes-some c.args.self.now.line c.args.self.now.pattern.now item_under (is_item_matched c.args.self.now.pattern.now) (item_tells c.args.self.now.pattern.now) c.args.items.now.items c.keep_other_items.new.items.items c.keep_other_items.ensures.kept (λ e. both_ways _ c.if-keep_other_items.false (c.keep_other_items.ensures.all.1 e))

pub returns-clause-in_cluster : goal.returns-clause-in_cluster
unfolding deleted_below
returns-clause-in_cluster c =
    deletes-some c.args.self.now.line c.args.self.now.pattern.now item_under (is_item_matched c.args.self.now.pattern.now) (item_tells c.args.self.now.pattern.now) c.args.items.now.items c.keep_other_items.new.items.items c.keep_other_items.ensures.kept (λ e. both_ways _ c.if-keep_other_items.false (c.keep_other_items.ensures.all.1 e))
