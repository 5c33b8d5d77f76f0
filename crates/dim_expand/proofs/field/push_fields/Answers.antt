-- One group more; at the end they are all.
use Rattle.std.proofs.Common.{map, refl, ◌∙◌, arith}
use Rattle.dim_expand.proofs.Growing.{pushes_none, pushes_more, pushes_whole}
use Rattle.dim_expand.proofs.Stated.{field-dim}
use Rattle.svd_model.specs.Trees.{field_under}
use Rattle.dim_expand.proofs.field.push_fields.Goals as goal

pub loop-place-init : goal.loop-place-init
loop-place-init c =
    pushes_none c.args.tally.now.counts.entries c.args.tally.now.counts.entries (map field_under c.args.made.now.entries) (map field_under c.args.made.now.entries) refl refl

pub loop-place-preserved : goal.loop-place-preserved
loop-place-preserved c =
    pushes_more c.args.tally.now.counts.entries c.loop-place.tally.counts.entries c.push_field.new.tally.counts.entries (map field_under c.args.made.now.entries) (map field_under c.loop-place.made.entries) (map field_under c.push_field.new.made.entries) (field_under (c.args.key.now, c.args.element.now)) c.list_count-count.result c.loop-place.place c.group_at.result c.group_at.ensures c.loop-place.invariant c.in_ok-push_field.ensures

pub returns : goal.returns
returns c =
    pushes_whole c.args.tally.now.counts.entries c.loop-place.tally.counts.entries (map field_under c.args.made.now.entries) (map field_under c.loop-place.made.entries) (field_under (c.args.key.now, c.args.element.now)) c.args.element.now.dim c.list_count-count.result c.loop-place.place refl (field-dim c.args.element.now) c.list_count-count.ensures
    (omega (arith, c.loop-place-test.false, c.loop-place.auto.place-end) ∙ c.unwrap_or-place-end.ensures)
    c.loop-place.invariant
