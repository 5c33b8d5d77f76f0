-- The peripheral has its keys where the pattern matches it, and is as it was elsewhere.
use Rattle.std.proofs.Common.{sym, ap, ◌∙◌}
use Rattle.glob_select.specs.Matching.{matches}
use Rattle.patch_changes.proofs.OneChild.{child-keyed, child-kept}
use Rattle.patch_edits.proofs.Deleting.{peripheral_tells}
use Rattle.patch_settings.proofs.ChildKeys.{if_ok}
use Rattle.svd_model.specs.Trees.{peripheral_tree, peripheral_under}
use Rattle.patch_changes.proofs.entries.set_one_peripheral.Goals as goal

pub returns-then-matches : goal.returns-then-matches
returns-then-matches c =
    if_ok c.set_peripheral.result
    (child-keyed c.args.pattern.now c.args.keys.now (peripheral_under (c.args.key.now, c.args.peripheral.now)).0 (peripheral_tree c.args.peripheral.now) (peripheral_tree c.set_peripheral.new.peripheral)
    (peripheral_tells c.args.pattern.now (c.args.key.now, c.args.peripheral.now) ∙ ap (matches c.args.pattern.now) (sym c.bytes.ensures.same) ∙ sym c.matches.ensures ∙ c.if-matches.true))
    c.set_peripheral.ensures

pub returns-else-matches : goal.returns-else-matches
returns-else-matches c =
    child-kept c.args.pattern.now c.args.keys.now (peripheral_under (c.args.key.now, c.args.peripheral.now))
    (peripheral_tells c.args.pattern.now (c.args.key.now, c.args.peripheral.now) ∙ ap (matches c.args.pattern.now) (sym c.bytes.ensures.same) ∙ sym c.matches.ensures ∙ c.if-matches.false)
