-- The next child, what is below it, and those behind it.
use Rattle.std.proofs.Common.{[], ◌+◌, Some, sym, ap, ◌∙◌, map, drop}
use Rattle.overlap_check.specs.Meetings.{clash_named, first_clash}
use Rattle.overlap_check.proofs.Clashing.{next_of, clashes-here, clashes-below, clashes-behind, clashes-none_left, item-named, item-below}
use Rattle.overlap_check.proofs.Firsts.{found_as}
use Rattle.svd_model.specs.Keys.{Key}
use Rattle.svd_model.specs.Steps.{Step, Kind}
use Rattle.svd_model.specs.Trees.{child_tree, item_under}
use Rattle.svd_model.proofs.Trees.{child_tree-cluster, child_tree-register, cluster_tree-below, item_under-name}
use Rattle.svd_rows.specs.Forest.{Tree, siblings}
use Rattle.overlap_check.proofs.clash.+walk.Goals as goal

pub clash_in_child-returns-in-Cluster : goal.clash_in_child-returns-in-Cluster
clash_in_child-returns-in-Cluster t c =
    found_as c.clash_in_items.result _ _
    (ap (λ items. first_clash [] (siblings (map item_under items))) c.as_slice.ensures.value
    ∙ sym
    (ap (λ child. first_clash [] (child_tree child).1.below) c.in-Cluster.is
    ∙ ap (λ (child : Kind × Tree Step Key). first_clash [] child.1.below) (child_tree-cluster c.in-Cluster.cluster)
    ∙ ap (first_clash []) (cluster_tree-below c.in-Cluster.cluster)))
    c.clash_in_items.ensures

pub clash_in_child-returns-in-Register : goal.clash_in_child-returns-in-Register
clash_in_child-returns-in-Register t c =
    found_as c.clash_in_fields.result _ _
    (sym
    (ap (λ child. first_clash [] (child_tree child).1.below) c.in-Register.is
    ∙ ap (λ (child : Kind × Tree Step Key). first_clash [] child.1.below) (child_tree-register c.in-Register.register)))
    c.clash_in_fields.ensures

pub clash_in_items-returns-in-Some : goal.clash_in_items-returns-in-Some
clash_in_items-returns-in-Some t c =
    let item = c.item-item.result in
    ap Some c.in_ok-clash_of.ensures
    ∙ sym
    (c.loop-item.invariant
    ∙ clashes-here item_under (drop c.loop-item.item-index c.args.items.now) item (drop (c.loop-item.item-index + 1) c.args.items.now) c.loop-item.seen.entries item.key.name (child_tree item.child).1.below c.in-Some.first
    (record { next = next_of c.args.items.now c.loop-item.item-index item c.loop-item-test.true c.item-item.is; named = item-named item; name_is = item_under-name item; below_is = item-below item })
    (sym c.in_ok-earlier.ensures.earlier ∙ c.in-Some.is))

pub clash_in_items-returns-in-Some-found : goal.clash_in_items-returns-in-Some-found
clash_in_items-returns-in-Some-found t c =
    let item = c.item-item.result in
    sym
    (c.loop-item.invariant
    ∙ clashes-below item_under (drop c.loop-item.item-index c.args.items.now) item (drop (c.loop-item.item-index + 1) c.args.items.now) c.loop-item.seen.entries item.key.name (child_tree item.child).1.below c.in-Some-found.clash
    (record { next = next_of c.args.items.now c.loop-item.item-index item c.loop-item-test.true c.item-item.is; named = item-named item; name_is = item_under-name item; below_is = item-below item })
    (sym c.in_ok-earlier.ensures.earlier ∙ c.in_default.is)
    (ap (clash_named item.key.name) (sym c.in_ok-below.ensures) ∙ sym c.in_ok-found.ensures ∙ c.in-Some-found.is))

pub clash_in_items-loop-item-preserved : goal.clash_in_items-loop-item-preserved
clash_in_items-loop-item-preserved t c =
    let item = c.item-item.result in
    c.loop-item.invariant
    ∙ clashes-behind item_under (drop c.loop-item.item-index c.args.items.now) item (drop (c.loop-item.item-index + 1) c.args.items.now) c.loop-item.seen.entries item.key.name (child_tree item.child).1.below c.meet.new.seen.entries
    (record { next = next_of c.args.items.now c.loop-item.item-index item c.loop-item-test.true c.item-item.is; named = item-named item; name_is = item_under-name item; below_is = item-below item })
    (sym c.in_ok-earlier.ensures.earlier ∙ c.in_default.is)
    (ap (clash_named item.key.name) (sym c.in_ok-below.ensures) ∙ sym c.in_ok-found.ensures ∙ c.in_default-found.is)
    (c.in_ok-earlier.ensures.kept c.in_default.is)

pub clash_in_items-returns : goal.clash_in_items-returns
clash_in_items-returns t c =
    sym (c.loop-item.invariant ∙ clashes-none_left item_under c.loop-item.seen.entries c.args.items.now c.loop-item.item-index c.loop-item-test.false)
