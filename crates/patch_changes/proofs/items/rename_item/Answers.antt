-- The item has the name where the pattern matches it, and is as it was elsewhere.
use Rattle.std.proofs.Common.{ℕ, List, refl, sym, ap, ◌∙◌}
use Rattle.glob_select.specs.Matching.{matches}
use Rattle.patch_changes.proofs.OneChild.{item-kept, item-renamed}
use Rattle.patch_edits.proofs.Deleting.{item_tells}
use Rattle.svd_model.specs.Trees.{item_under}
use Rattle.patch_changes.proofs.items.rename_item.Goals as goal

pub returns-in_ok-copy : goal.returns-in_ok-copy
returns-in_ok-copy c =
    item-renamed c.args.pattern.now c.args.name.now c.args.item.now (record { key = record { name = c.in_ok-copy.field-0; number = 0 }; child = c.args.item.now.child })
    (item_tells c.args.pattern.now c.args.item.now ∙ ap (matches c.args.pattern.now) (sym c.bytes.ensures.same) ∙ sym c.matches.ensures ∙ c.if-matches.true)
    (ap (λ (name : List ℕ). record { name = name; number = 0 }) c.in_ok-copy.ensures) refl

pub returns-else-matches : goal.returns-else-matches
returns-else-matches c =
    item-kept c.args.pattern.now c.args.name.now (item_under c.args.item.now)
    (item_tells c.args.pattern.now c.args.item.now ∙ ap (matches c.args.pattern.now) (sym c.bytes.ensures.same) ∙ sym c.matches.ensures ∙ c.if-matches.false)
