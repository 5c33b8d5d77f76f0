-- A field counts as often as it has members, and so do its values.
use Rattle.std.proofs.Common.{map, refl, ap, ◌∙◌}
use Rattle.dim_expand.specs.Walks.{weighed}
use Rattle.dim_expand.proofs.Counting.{weighed-says, sets-typed}
use Rattle.dim_expand.proofs.Stated.{field-dim, field-typed}
use Rattle.svd_model.specs.Counting.{told_count}
use Rattle.svd_model.specs.Steps.{field, set}
use Rattle.svd_model.specs.Trees.{field_tree, set_tree, numbered, step_of}
use Rattle.dim_expand.proofs.count.field_count.Goals as goal

pub returns-clause-count : goal.returns-clause-count
returns-clause-count c =
    weighed-says c.args.counted (step_of field c.args.key.now) (field_tree c.args.element.now) c.args.element.now.dim c.counts_field.result c.weight-weight.result c.sets_count-below.result c.times.result refl (field-dim c.args.element.now) c.counts_field.ensures c.weight-weight.ensures.weight
    (c.sets_count-below.ensures ∙ ap (λ sets. told_count (weighed c.args.counted (numbered set 0 (map set_tree sets)))) c.as_slice.ensures.value)
    c.times.ensures

pub returns-clause-typed : goal.returns-clause-typed
returns-clause-typed c =
    (refl, field-typed (step_of field c.args.key.now) c.args.element.now refl c.weight-weight.ensures.named c.weight-weight.ensures.small, sets-typed 0 c.args.element.now.values.items)
