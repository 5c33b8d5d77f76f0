-- A peripheral counts as often as it has members, and so does what stands below it.
use Rattle.std.proofs.Common.{true, map, refl, ap, ◌∙◌, subst}
use Rattle.dim_expand.specs.Walks.{weighed, AreTyped}
use Rattle.dim_expand.proofs.Counting.{weighed-says, counts-peripheral}
use Rattle.dim_expand.proofs.Stated.{peripheral-dim, peripheral-typed}
use Rattle.svd_model.specs.Counting.{told_count}
use Rattle.svd_model.specs.Steps.{peripheral}
use Rattle.svd_model.specs.Trees.{peripheral_tree, item_under, step_of}
use Rattle.svd_rows.specs.Forest.{siblings}
use Rattle.dim_expand.proofs.count.peripheral_count.Goals as goal

pub returns-clause-count : goal.returns-clause-count
returns-clause-count c =
    weighed-says c.args.counted (step_of peripheral c.args.key.now) (peripheral_tree c.args.element.now) c.args.element.now.dim c.counts_group.result c.weight-weight.result c.items_count-below.result c.times.result refl (peripheral-dim c.args.element.now) (c.counts_group.ensures ∙ counts-peripheral c.args.counted) c.weight-weight.ensures.weight
    (c.items_count-below.ensures.count ∙ ap (λ items. told_count (weighed c.args.counted (siblings (map item_under items)))) c.as_slice.ensures.value)
    c.times.ensures

pub returns-clause-typed : goal.returns-clause-typed
returns-clause-typed c = (
  refl,
  peripheral-typed (step_of peripheral c.args.key.now) c.args.element.now refl c.weight-weight.ensures.named c.weight-weight.ensures.small,
  subst (λ items. AreTyped true (siblings (map item_under items))) c.as_slice.ensures.value c.items_count-below.ensures.typed,
)
