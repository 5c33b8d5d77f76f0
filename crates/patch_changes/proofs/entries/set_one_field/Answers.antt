-- The field has its keys where the pattern matches it, and is as it was elsewhere.
use Rattle.std.proofs.Common.{sym, ap, ◌∙◌}
use Rattle.glob_select.specs.Matching.{matches}
use Rattle.patch_changes.proofs.OneChild.{child-keyed, child-kept}
use Rattle.patch_edits.proofs.Deleting.{field_tells}
use Rattle.patch_settings.proofs.ChildKeys.{if_ok}
use Rattle.svd_model.specs.Trees.{field_tree, field_under}
use Rattle.patch_changes.proofs.entries.set_one_field.Goals as goal

pub returns-then-matches : goal.returns-then-matches
returns-then-matches c =
    if_ok c.set_field.result
    (child-keyed c.args.pattern.now c.args.keys.now (field_under (c.args.key.now, c.args.element.now)).0 (field_tree c.args.element.now) (field_tree c.set_field.new.field)
    (field_tells c.args.pattern.now (c.args.key.now, c.args.element.now) ∙ ap (matches c.args.pattern.now) (sym c.bytes.ensures.same) ∙ sym c.matches.ensures ∙ c.if-matches.true))
    c.set_field.ensures

pub returns-else-matches : goal.returns-else-matches
returns-else-matches c =
    child-kept c.args.pattern.now c.args.keys.now (field_under (c.args.key.now, c.args.element.now))
    (field_tells c.args.pattern.now (c.args.key.now, c.args.element.now) ∙ ap (matches c.args.pattern.now) (sym c.bytes.ensures.same) ∙ sym c.matches.ensures ∙ c.if-matches.false)
