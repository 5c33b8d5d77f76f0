use Rattle.std.proofs.Common.{Some, map, subst}
use Rattle.patch_sem.specs.Selecting.{selects}
use Rattle.patch_edits.proofs.Fields.{Decides, decides-fault, decides-more, decides-none, one}
use Rattle.patch_edits.proofs.Passed.{broke_off}
use Rattle.patch_edits.specs.Visits.{each, visited}
use Rattle.svd_model.specs.Trees.{field_under}
use Rattle.svd_rows.specs.Forest.{siblings}
use Rattle.patch_edits.proofs.walking.each_field.Goals as goal

pub loop-key-preserved : goal.loop-key-preserved
loop-key-preserved g c =
    decides-more c.args.first.now (λ kind. visited (g.E.Edit.edit c.args.edit.now) (map selects c.args.rest.now) (Some kind)) (c.in-Some.key.now, c.in-Some.field.now) c.next.new.self c.args.fields.now.entries
    c.in_ok-one_field.ensures.0
    (subst (λ left. Decides c.args.first.now (λ kind. visited (g.E.Edit.edit c.args.edit.now) (map selects c.args.rest.now) (Some kind)) left c.args.fields.now.entries) c.in-Some.ensures.steps c.loop-key.invariant)

pub returns-in_err-one_field : goal.returns-in_err-one_field
returns-in_err-one_field g c =
    broke_off (one c.args.first.now (λ kind. visited (g.E.Edit.edit c.args.edit.now) (map selects c.args.rest.now) (Some kind)) (c.in-Some.key.now, c.in-Some.field.now))
    (each (selects c.args.first.now) (λ kind. visited (g.E.Edit.edit c.args.edit.now) (map selects c.args.rest.now) (Some kind)) (siblings (map field_under c.args.fields.now.entries)))
    (siblings (map field_under c.args.fields.now.entries)) c.in_err-one_field.field-0.0 c.from_residual.result c.from_residual.ensures.1
    (λ e. decides-fault c.args.first.now (λ kind. visited (g.E.Edit.edit c.args.edit.now) (map selects c.args.rest.now) (Some kind)) (c.in-Some.key.now, c.in-Some.field.now) c.next.new.self c.args.fields.now.entries c.in_err-one_field.field-0.0 e
    (subst (λ left. Decides c.args.first.now (λ kind. visited (g.E.Edit.edit c.args.edit.now) (map selects c.args.rest.now) (Some kind)) left c.args.fields.now.entries) c.in-Some.ensures.steps c.loop-key.invariant))
    c.in_err-one_field.ensures

pub returns : goal.returns
returns g c =
    decides-none c.args.first.now (λ kind. visited (g.E.Edit.edit c.args.edit.now) (map selects c.args.rest.now) (Some kind)) c.args.fields.now.entries
    (subst (λ left. Decides c.args.first.now (λ kind. visited (g.E.Edit.edit c.args.edit.now) (map selects c.args.rest.now) (Some kind)) left c.args.fields.now.entries) c.in-None.ensures.steps.0 c.loop-key.invariant)
