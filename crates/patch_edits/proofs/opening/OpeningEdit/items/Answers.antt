use Rattle.std.proofs.Common.{ap, inr, sym, ◌∙◌}
use Rattle.std.specs.List.{list_any}
use Rattle.patch_edits.proofs.Deleting.{opens-none, opens-some, is_item_matched, item_tells}
use Rattle.patch_edits.specs.Deletions.{opened_below}
use Rattle.svd_model.specs.Trees.{item_under}
use Rattle.patch_edits.proofs.opening.OpeningEdit.items.Goals as goal

pub returns-then-matches_item-clause-in_peripheral : goal.returns-then-matches_item-clause-in_peripheral
unfolding opened_below
returns-then-matches_item-clause-in_peripheral c =
    opens-some c.args.self.now.line c.args.self.now.pattern.now item_under (is_item_matched c.args.self.now.pattern.now) (item_tells c.args.self.now.pattern.now) c.args.items.now.items (sym (c.matches_item.ensures ∙ ap (list_any (is_item_matched c.args.self.now.pattern.now)) c.as_slice.ensures.value) ∙ c.if-matches_item.true)

pub returns-then-matches_item-clause-in_cluster : goal.returns-then-matches_item-clause-in_cluster
unfolding opened_below
returns-then-matches_item-clause-in_cluster c =
    opens-some c.args.self.now.line c.args.self.now.pattern.now item_under (is_item_matched c.args.self.now.pattern.now) (item_tells c.args.self.now.pattern.now) c.args.items.now.items (sym (c.matches_item.ensures ∙ ap (list_any (is_item_matched c.args.self.now.pattern.now)) c.as_slice.ensures.value) ∙ c.if-matches_item.true)

pub returns-clause-in_peripheral : goal.returns-clause-in_peripheral
unfolding opened_below
returns-clause-in_peripheral c =
    inr (opens-none c.args.self.now.line c.args.self.now.pattern.now item_under (is_item_matched c.args.self.now.pattern.now) (item_tells c.args.self.now.pattern.now) c.args.items.now.items (sym (c.matches_item.ensures ∙ ap (list_any (is_item_matched c.args.self.now.pattern.now)) c.as_slice.ensures.value) ∙ c.if-matches_item.false))

pub returns-clause-in_cluster : goal.returns-clause-in_cluster
unfolding opened_below
returns-clause-in_cluster c =
    inr (opens-none c.args.self.now.line c.args.self.now.pattern.now item_under (is_item_matched c.args.self.now.pattern.now) (item_tells c.args.self.now.pattern.now) c.args.items.now.items (sym (c.matches_item.ensures ∙ ap (list_any (is_item_matched c.args.self.now.pattern.now)) c.as_slice.ensures.value) ∙ c.if-matches_item.false))
