use Rattle.std.proofs.Common.{List, Some, inr, map, ap, ◌∙◌}
use Rattle.patch_model.specs.Acts.{PatternItems}
use Rattle.patch_sem.specs.declared.fault.PatchFault.TheVariants.{NoMatch}
use Rattle.patch_sem.specs.Selecting.{selects}
use Rattle.patch_edits.proofs.Fields.{no_more_patterns, at_field, opened}
use Rattle.patch_edits.specs.Visits.{visited}
use Rattle.svd_model.specs.Steps.{field}
use Rattle.svd_model.specs.Trees.{field_tree}
use Rattle.patch_edits.proofs.walking.in_field.Goals as goal

pub returns-in-None : goal.returns-in-None
returns-in-None g c =
    inr (ap (λ (patterns : List PatternItems). visited (g.E.Edit.edit c.args.edit.now) (map selects patterns) (Some field) (field_tree c.args.element.now).below) (no_more_patterns c.args.patterns.now c.in-None.ensures.cases)
    ∙ at_field (g.E.Edit.edit c.args.edit.now) (field_tree c.args.element.now).below (NoMatch c.line.result) (c.line.ensures (field_tree c.args.element.now).below))

pub returns-in-Some : goal.returns-in-Some
returns-in-Some g c =
    ap (λ (patterns : List PatternItems). visited (g.E.Edit.edit c.args.edit.now) (map selects patterns) (Some field) (field_tree c.args.element.now).below) c.in-Some.ensures.cases.0
    ∙ opened c.in-Some.field-0.0.now (map selects c.in-Some.field-0.1.now) (g.E.Edit.edit c.args.edit.now) c.args.element.now
