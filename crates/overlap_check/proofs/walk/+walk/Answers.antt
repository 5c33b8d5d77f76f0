-- The first of a child, and of a list of children.
use Rattle.std.proofs.Common.{Some, map, sym, ap, ◌∙◌}
use Rattle.overlap_check.specs.Walks.{first_below, first_child, first_at, first_in, named, fails}
use Rattle.overlap_check.proofs.Firsts.{found_as, found_here, found_below, passed-at, stopped-at, none_left}
use Rattle.overlap_check.proofs.Stated.{entered-cluster}
use Rattle.svd_model.specs.declared.device.Cluster.{out-Cluster}
use Rattle.svd_model.specs.Steps.{cluster}
use Rattle.svd_model.specs.Trees.{child_tree, item_under}
use Rattle.svd_model.proofs.Trees.{child_tree-cluster, child_tree-register, cluster_tree-is, item_under-is}
use Rattle.svd_rows.specs.Forest.{siblings}
use Rattle.overlap_check.proofs.walk.+walk.Goals as goal

pub first_in_child-returns-in-Cluster : goal.first_in_child-returns-in-Cluster
first_in_child-returns-in-Cluster t c =
    found_as c.first_in_cluster.result _ _
    (ap (first_child c.args.rule c.args.outer.now) (sym (child_tree-cluster c.in-Cluster.cluster) ∙ ap child_tree (sym c.in-Cluster.is)))
    c.first_in_cluster.ensures

pub first_in_child-returns-in-Register : goal.first_in_child-returns-in-Register
first_in_child-returns-in-Register t c =
    found_as c.first_in_register.result _ _
    (ap (first_child c.args.rule c.args.outer.now) (sym (child_tree-register c.in-Register.register) ∙ ap child_tree (sym c.in-Register.is)))
    c.first_in_register.ensures

pub first_in_cluster-returns-then-fails_group : goal.first_in_cluster-returns-then-fails_group
unfolding fails
first_in_cluster-returns-then-fails_group t c =
    let element = c.args.element.now in
    ap Some c.new.ensures
    ∙ sym
    (ap (first_below c.args.rule cluster c.args.outer.now) (cluster_tree-is element)
    ∙ found_here c.args.rule cluster c.args.outer.now c.enter-place.result _ (entered-cluster (out-Cluster element) c.args.outer.now ∙ sym c.enter-place.ensures) (sym c.fails_group.ensures ∙ c.if-fails_group.true))

pub first_in_cluster-returns : goal.first_in_cluster-returns
unfolding fails
first_in_cluster-returns t c =
    let element = c.args.element.now in
    found_as c.first_in_items.result _ _
    (ap (λ items. first_in c.args.rule c.enter-place.result (siblings (map item_under items))) c.as_slice.ensures.value
    ∙ sym
    (ap (first_below c.args.rule cluster c.args.outer.now) (cluster_tree-is element)
    ∙ found_below c.args.rule cluster c.args.outer.now c.enter-place.result _ (entered-cluster (out-Cluster element) c.args.outer.now ∙ sym c.enter-place.ensures) (sym c.fails_group.ensures ∙ c.if-fails_group.false)))
    c.first_in_items.ensures

pub first_in_item-returns : goal.first_in_item-returns
first_in_item-returns t c =
    found_as c.found_round.result _ _
    (ap (named _) c.in_ok-found.ensures ∙ sym (ap (first_at c.args.rule c.args.outer.now) (item_under-is c.args.item.now)))
    c.found_round.ensures

pub first_in_items-returns-in-Some : goal.first_in_items-returns-in-Some
first_in_items-returns-in-Some t c =
    sym
    (c.loop-item.invariant
    ∙ stopped-at item_under c.args.rule c.args.outer.now c.args.items.now c.loop-item.item-index c.item-item.result c.in-Some.path c.loop-item-test.true c.item-item.is (sym c.in_ok-found.ensures ∙ c.in-Some.is))

pub first_in_items-loop-item-preserved : goal.first_in_items-loop-item-preserved
first_in_items-loop-item-preserved t c =
    c.loop-item.invariant
    ∙ passed-at item_under c.args.rule c.args.outer.now c.args.items.now c.loop-item.item-index c.item-item.result c.loop-item-test.true c.item-item.is (sym c.in_ok-found.ensures ∙ c.in_default.is)

pub first_in_items-returns : goal.first_in_items-returns
first_in_items-returns t c =
    sym (c.loop-item.invariant ∙ none_left item_under c.args.rule c.args.outer.now c.args.items.now c.loop-item.item-index c.loop-item-test.false)
