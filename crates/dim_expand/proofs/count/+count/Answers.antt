-- A cluster counts as often as it has members, and so does what stands below it; children are counted one after the other.
use Rattle.std.proofs.Common.{true, map, drop, ◌+◌, refl, sym, ap, ◌∙◌, subst}
use Rattle.dim_expand.specs.Walks.{weighed, weighed_at, AreTyped, IsTypedAt}
use Rattle.dim_expand.proofs.Counting.{weighed-says, counted_more, counted_all, typed_all, items-left, none-left}
use Rattle.dim_expand.proofs.Stated.{cluster-dim, cluster-typed, item-cluster, item-register}
use Rattle.svd_model.specs.declared.device.Cluster.{out-Cluster}
use Rattle.svd_model.specs.Counting.{told_count}
use Rattle.svd_model.specs.Steps.{cluster}
use Rattle.svd_model.specs.Trees.{cluster_places, item_under, step_of}
use Rattle.svd_model.proofs.Trees.{cluster_tree-is}
use Rattle.svd_rows.specs.Forest.{siblings}
use Rattle.svd_rows.specs.Ranks.{stated}
use Rattle.dim_expand.proofs.count.+count.Goals as goal

pub cluster_count-returns-clause-count : goal.cluster_count-returns-clause-count
cluster_count-returns-clause-count t c =
    let element = out-Cluster c.args.element.now in
    weighed-says c.args.counted (step_of cluster c.args.key.now) (record { keys = stated (cluster_places element); below = siblings (map item_under element.children.items) }) element.dim c.counts_group.result c.weight-weight.result c.items_count-below.result c.times.result refl (cluster-dim element) c.counts_group.ensures c.weight-weight.ensures.weight
    (c.items_count-below.ensures.count ∙ ap (λ items. told_count (weighed c.args.counted (siblings (map item_under items)))) c.as_slice.ensures.value)
    c.times.ensures
    ∙ sym (ap (λ tree. told_count (weighed_at c.args.counted (step_of cluster c.args.key.now, tree))) (cluster_tree-is c.args.element.now))

pub cluster_count-returns-clause-typed : goal.cluster_count-returns-clause-typed
cluster_count-returns-clause-typed t c =
    let element = out-Cluster c.args.element.now in
    subst (λ tree. IsTypedAt (step_of cluster c.args.key.now, tree)) (sym (cluster_tree-is c.args.element.now))
    (refl, cluster-typed (step_of cluster c.args.key.now) element refl c.weight-weight.ensures.named c.weight-weight.ensures.small, subst (λ items. AreTyped true (siblings (map item_under items))) c.as_slice.ensures.value c.items_count-below.ensures.typed)

pub item_count-returns-in-Cluster-clause-count : goal.item_count-returns-in-Cluster-clause-count
item_count-returns-in-Cluster-clause-count t c =
    c.cluster_count.ensures.count ∙ sym (ap (λ x. told_count (weighed_at c.args.counted x)) (item-cluster c.args.item.now c.in-Cluster.cluster c.in-Cluster.is))

pub item_count-returns-in-Cluster-clause-typed : goal.item_count-returns-in-Cluster-clause-typed
item_count-returns-in-Cluster-clause-typed t c =
    subst IsTypedAt (sym (item-cluster c.args.item.now c.in-Cluster.cluster c.in-Cluster.is)) c.cluster_count.ensures.typed

pub item_count-returns-in-Register-clause-count : goal.item_count-returns-in-Register-clause-count
item_count-returns-in-Register-clause-count t c =
    c.register_count.ensures.count ∙ sym (ap (λ x. told_count (weighed_at c.args.counted x)) (item-register c.args.item.now c.in-Register.register c.in-Register.is))

pub item_count-returns-in-Register-clause-typed : goal.item_count-returns-in-Register-clause-typed
item_count-returns-in-Register-clause-typed t c =
    subst IsTypedAt (sym (item-register c.args.item.now c.in-Register.register c.in-Register.is)) c.register_count.ensures.typed

pub items_count-loop-item-preserved : goal.items_count-loop-item-preserved
items_count-loop-item-preserved t c =
    counted_more c.args.counted (map item_under c.args.items.now) (map item_under (drop c.loop-item.item-index c.args.items.now)) (map item_under (drop (c.loop-item.item-index + 1) c.args.items.now)) (item_under c.item-item.result) c.loop-item.total c.item_count.result c.saturating_add-total.result
    c.loop-item.invariant (items-left item_under c.args.items.now c.loop-item.item-index c.item-item.result c.loop-item-test.true c.item-item.is) c.item_count.ensures.count c.saturating_add-total.ensures c.item_count.ensures.typed

pub items_count-returns-clause-count : goal.items_count-returns-clause-count
items_count-returns-clause-count t c =
    counted_all c.args.counted (map item_under c.args.items.now) (map item_under (drop c.loop-item.item-index c.args.items.now)) c.loop-item.total c.loop-item.invariant (none-left item_under c.args.items.now c.loop-item.item-index c.loop-item-test.false)

pub items_count-returns-clause-typed : goal.items_count-returns-clause-typed
items_count-returns-clause-typed t c =
    typed_all c.args.counted (map item_under c.args.items.now) (map item_under (drop c.loop-item.item-index c.args.items.now)) c.loop-item.total c.loop-item.invariant (none-left item_under c.args.items.now c.loop-item.item-index c.loop-item-test.false)
