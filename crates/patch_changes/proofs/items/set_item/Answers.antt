-- The item has its keys where the pattern matches it, and is as it was elsewhere.
use Rattle.std.proofs.Common.{refl, sym, ap, ◌∙◌}
use Rattle.glob_select.specs.Matching.{matches}
use Rattle.patch_changes.proofs.OneChild.{child-kept, item-keyed}
use Rattle.patch_edits.proofs.Deleting.{item_tells}
use Rattle.patch_settings.proofs.ChildKeys.{if_ok}
use Rattle.svd_model.specs.Trees.{item_under}
use Rattle.patch_changes.proofs.items.set_item.Goals as goal

pub returns-then-matches : goal.returns-then-matches
returns-then-matches c =
    if_ok c.set_child.result
    (item-keyed c.args.pattern.now c.args.keys.now c.args.item.now (record { key = c.args.item.now.key; child = c.set_child.new.child })
    (item_tells c.args.pattern.now c.args.item.now ∙ ap (matches c.args.pattern.now) (sym c.bytes.ensures.same) ∙ sym c.matches.ensures ∙ c.if-matches.true) refl)
    c.set_child.ensures

pub returns-else-matches : goal.returns-else-matches
returns-else-matches c =
    child-kept c.args.pattern.now c.args.keys.now (item_under c.args.item.now)
    (item_tells c.args.pattern.now c.args.item.now ∙ ap (matches c.args.pattern.now) (sym c.bytes.ensures.same) ∙ sym c.matches.ensures ∙ c.if-matches.false)
