use Rattle.std.proofs.Common.{◌+◌, ◌∙◌, map, drop, refl, sym, ap}
use Rattle.indexmap.proofs.MapLemmas.{OnOk-map}
use Rattle.derive_build.proofs.Listed.{grown, one_more, none_left}
use Rattle.derive_build.specs.Nodes.{with_rest, cluster_under}
use Rattle.svd_model.proofs.Lists.{from_place, drop_past}
use Rattle.svd_model.proofs.Trees.{child_tree-cluster, child_tree-register, item_under-is, cluster_tree-below}
use Rattle.svd_model.specs.Trees.{item_under, child_tree, step_of}
use Rattle.svd_rows.specs.Forest.{siblings}
use Rattle.derive_build.proofs.listing.+list.Goals as goal

pub add_cluster-returns : goal.add_cluster-returns
add_cluster-returns t c =
    OnOk-map c.add_items.result _ _
    (λ below. grown c.args.owns.now.items c.push.new.owns.items c.add_items.new.owns.items _ (cluster_under c.args.key.now c.args.cluster.now).0 (cluster_under c.args.key.now c.args.cluster.now).1
    c.in_ok-push.ensures refl
    (below ∙ ap (λ items. with_rest c.push.new.owns.items (siblings (map item_under items))) c.as_slice.ensures.value
    ∙ sym (ap (with_rest c.push.new.owns.items) (cluster_tree-below c.args.cluster.now))))
    c.add_items.ensures

pub add_item-returns-in-Cluster : goal.add_item-returns-in-Cluster
add_item-returns-in-Cluster t c =
    let is = item_under-is c.args.item.now ∙ ap (λ child. (step_of (child_tree child).0 c.args.item.now.key, (child_tree child).1)) c.in-Cluster.is ∙ ap (λ tree. (step_of tree.0 c.args.item.now.key, tree.1)) (child_tree-cluster c.in-Cluster.cluster) in
    rw is c.add_cluster.ensures

pub add_item-returns-in-Register : goal.add_item-returns-in-Register
add_item-returns-in-Register t c =
    let is = item_under-is c.args.item.now ∙ ap (λ child. (step_of (child_tree child).0 c.args.item.now.key, (child_tree child).1)) c.in-Register.is ∙ ap (λ tree. (step_of tree.0 c.args.item.now.key, tree.1)) (child_tree-register c.in-Register.register) in
    rw is c.add_register.ensures

pub add_items-loop-item-preserved : goal.add_items-loop-item-preserved
add_items-loop-item-preserved t c =
    one_more c.loop-item.owns.items c.add_item.new.owns.items (item_under c.item-item.result) (map item_under (drop c.loop-item.item-index c.args.items.now)) (map item_under (drop (c.loop-item.item-index + 1) c.args.items.now)) _
    (ap (map item_under) (from_place c.args.items.now c.loop-item.item-index c.item-item.result c.loop-item-test.true c.item-item.is))
    c.in_ok-add_item.ensures c.loop-item.invariant

pub add_items-returns : goal.add_items-returns
add_items-returns t c =
    none_left c.loop-item.owns.items (map item_under (drop c.loop-item.item-index c.args.items.now)) _
    (ap (map item_under) (drop_past c.args.items.now c.loop-item.item-index c.loop-item-test.false)) c.loop-item.invariant
