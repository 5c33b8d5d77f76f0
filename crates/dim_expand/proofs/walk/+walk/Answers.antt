-- The first of a child, and of a list of children.
use Rattle.std.proofs.Common.{map, refl, sym, ap, ◌∙◌}
use Rattle.dim_expand.specs.Walks.{first_below, first_at, first_in, named}
use Rattle.dim_expand.proofs.Firsts.{found_as, found_itself, found_below, cause-says, passed-at, stopped-at, none_left}
use Rattle.dim_expand.proofs.Stated.{cluster-dim}
use Rattle.svd_model.specs.declared.device.Cluster.{out-Cluster}
use Rattle.svd_model.specs.Keys.{Key}
use Rattle.svd_model.specs.Steps.{Step, Kind, cluster}
use Rattle.svd_model.specs.Trees.{child_tree, item_under, cluster_places}
use Rattle.svd_model.proofs.Trees.{child_tree-cluster, child_tree-register, cluster_tree-is, item_under-is}
use Rattle.svd_rows.specs.Forest.{Tree, siblings}
use Rattle.svd_rows.specs.Ranks.{stated}
use Rattle.dim_expand.proofs.walk.+walk.Goals as goal

pub first_in_child-returns-in-Cluster : goal.first_in_child-returns-in-Cluster
first_in_child-returns-in-Cluster t c =
    found_as c.first_in_cluster.result _ _
    (ap (λ (x : Kind × Tree Step Key). first_below x.0 c.args.name.now x.1) (sym (child_tree-cluster c.in-Cluster.cluster) ∙ ap child_tree (sym c.in-Cluster.is)))
    c.first_in_cluster.ensures

pub first_in_child-returns-in-Register : goal.first_in_child-returns-in-Register
first_in_child-returns-in-Register t c =
    found_as c.first_in_register.result _ _
    (ap (λ (x : Kind × Tree Step Key). first_below x.0 c.args.name.now x.1) (sym (child_tree-register c.in-Register.register) ∙ ap child_tree (sym c.in-Register.is)))
    c.first_in_register.ensures

pub first_in_cluster-returns-in-Some : goal.first_in_cluster-returns-in-Some
first_in_cluster-returns-in-Some t c =
    let element = out-Cluster c.args.element.now in
    found_itself cluster c.args.name.now (record { keys = stated (cluster_places element); below = siblings (map item_under element.children.items) }) c.in-Some.cause c.itself.result
    (cause-says cluster c.args.name.now (stated (cluster_places element)) element.dim refl (cluster-dim element) ∙ sym c.dim_cause.ensures ∙ c.in-Some.is)
    c.itself.ensures.inner c.itself.ensures.cause
    ∙ sym (ap (first_below cluster c.args.name.now) (cluster_tree-is c.args.element.now))

pub first_in_cluster-returns : goal.first_in_cluster-returns
first_in_cluster-returns t c =
    let element = out-Cluster c.args.element.now in
    found_as c.first_in_items.result _ _
    (ap (λ items. first_in (siblings (map item_under items))) c.as_slice.ensures.value
    ∙ sym
    (ap (first_below cluster c.args.name.now) (cluster_tree-is c.args.element.now)
    ∙ found_below cluster c.args.name.now (record { keys = stated (cluster_places element); below = siblings (map item_under element.children.items) })
    (cause-says cluster c.args.name.now (stated (cluster_places element)) element.dim refl (cluster-dim element) ∙ sym c.dim_cause.ensures ∙ c.in_default.is)))
    c.first_in_items.ensures

pub first_in_item-returns : goal.first_in_item-returns
first_in_item-returns t c =
    found_as c.round.result _ _
    (ap (named _) c.in_ok-found.ensures ∙ sym (ap first_at (item_under-is c.args.item.now)))
    c.round.ensures

pub first_in_items-returns-in-Some : goal.first_in_items-returns-in-Some
first_in_items-returns-in-Some t c =
    sym
    (c.loop-item.invariant
    ∙ stopped-at item_under c.args.items.now c.loop-item.item-index c.item-item.result c.in-Some.found c.loop-item-test.true c.item-item.is (sym c.in_ok-found.ensures ∙ c.in-Some.is))

pub first_in_items-loop-item-preserved : goal.first_in_items-loop-item-preserved
first_in_items-loop-item-preserved t c =
    c.loop-item.invariant
    ∙ passed-at item_under c.args.items.now c.loop-item.item-index c.item-item.result c.loop-item-test.true c.item-item.is (sym c.in_ok-found.ensures ∙ c.in_default.is)

pub first_in_items-returns : goal.first_in_items-returns
first_in_items-returns t c =
    sym (c.loop-item.invariant ∙ none_left item_under c.args.items.now c.loop-item.item-index c.loop-item-test.false)
