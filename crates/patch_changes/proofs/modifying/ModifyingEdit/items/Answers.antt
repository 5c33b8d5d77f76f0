use Rattle.std.proofs.Common.{Some, ap, inr, sym, ◌∙◌}
use Rattle.std.specs.List.{list_any}
use Rattle.patch_changes.proofs.Kept.{changing-evens}
use Rattle.patch_changes.proofs.InLists.{list-changed, list-none}
use Rattle.patch_changes.specs.Changes.{changed_with}
use Rattle.patch_edits.proofs.Deleting.{is_item_matched, item_tells}
use Rattle.patch_growth.proofs.NewChild.{item-named}
use Rattle.svd_model.specs.Trees.{item_under}
use Rattle.patch_edits.proofs.Recounting.{recounts-even}
use Rattle.patch_edits.specs.Edits.{below_block}
use Rattle.svd_model.specs.Steps.{peripheral}
use Rattle.patch_changes.proofs.modifying.ModifyingEdit.items.Goals as goal

pub returns-then-not-matches_item-clause-in_peripheral : goal.returns-then-not-matches_item-clause-in_peripheral
unfolding changed_with
returns-then-not-matches_item-clause-in_peripheral c =
    inr (list-none c.args.self.now.line c.args.self.now.pattern.now c.args.self.now.keys.now c.args.self.now.name.now item_under (λ item. item.key) (item_tells c.args.self.now.pattern.now) item-named c.args.items.now.items (sym (c.matches_item.ensures ∙ ap (list_any (is_item_matched c.args.self.now.pattern.now)) c.as_slice.ensures.value) ∙ c.if-not-matches_item.true))

pub returns-then-not-matches_item-clause-in_cluster : goal.returns-then-not-matches_item-clause-in_cluster
unfolding changed_with
returns-then-not-matches_item-clause-in_cluster c =
    inr (list-none c.args.self.now.line c.args.self.now.pattern.now c.args.self.now.keys.now c.args.self.now.name.now item_under (λ item. item.key) (item_tells c.args.self.now.pattern.now) item-named c.args.items.now.items (sym (c.matches_item.ensures ∙ ap (list_any (is_item_matched c.args.self.now.pattern.now)) c.as_slice.ensures.value) ∙ c.if-not-matches_item.true))

pub returns-clause-in_peripheral : goal.returns-clause-in_peripheral
unfolding changed_with
returns-clause-in_peripheral c =
    list-changed c.args.self.now.line c.args.self.now.pattern.now c.args.self.now.keys.now c.args.self.now.name.now item_under (λ item. item.key) (item_tells c.args.self.now.pattern.now) item-named c.args.items.now.items c.set_items.new.items.items c.rename_items.new.items.items c.rename_items.result
    (sym (c.matches_item.ensures ∙ ap (list_any (is_item_matched c.args.self.now.pattern.now)) c.as_slice.ensures.value) ∙ c.if-not-matches_item.false) c.in-Ok.ensures c.rename_items.ensures

pub returns-clause-in_cluster : goal.returns-clause-in_cluster
unfolding changed_with
returns-clause-in_cluster c =
    list-changed c.args.self.now.line c.args.self.now.pattern.now c.args.self.now.keys.now c.args.self.now.name.now item_under (λ item. item.key) (item_tells c.args.self.now.pattern.now) item-named c.args.items.now.items c.set_items.new.items.items c.rename_items.new.items.items c.rename_items.result
    (sym (c.matches_item.ensures ∙ ap (list_any (is_item_matched c.args.self.now.pattern.now)) c.as_slice.ensures.value) ∙ c.if-not-matches_item.false) c.in-Ok.ensures c.rename_items.ensures

pub returns-clause-counted : goal.returns-clause-counted
returns-clause-counted c =
    recounts-even below_block (changed_with c.args.self.now.line c.args.self.now.pattern.now c.args.self.now.keys.now c.args.self.now.name.now) (changing-evens c.args.self.now.line c.args.self.now.pattern.now c.args.self.now.keys.now c.args.self.now.name.now) (Some peripheral) c.args._total.now c.args.items.now.items c.rename_items.new.items.items c.rename_items.result (returns-clause-in_peripheral c)
