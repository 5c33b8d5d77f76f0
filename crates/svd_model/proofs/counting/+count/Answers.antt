use Rattle.std.proofs.Common.{◌+◌, zero-add, sym, map, drop, arith, ap, ◌∙◌}
use Rattle.svd_model.specs.Counting.{told_count, elements_in}
use Rattle.svd_model.specs.Trees.{item_under}
use Rattle.svd_rows.specs.Forest.{siblings}
use Rattle.svd_model.proofs.Counts.{counted_on, counted_all, told-fits, item-counted, item-below, items-next, items-none, cluster-below, register-below}
use Rattle.svd_model.proofs.counting.+count.Goals as goal

pub below-returns-in-Cluster : goal.below-returns-in-Cluster
below-returns-in-Cluster t c =
    c.items_in.ensures ∙ ap (λ items. told_count (elements_in (siblings (map item_under items)))) c.as_slice.ensures.value
    ∙ ap told_count (ap elements_in (cluster-below c.args.child.now c.in-Cluster.cluster c.in-Cluster.is))

pub below-returns-in-Register : goal.below-returns-in-Register
below-returns-in-Register t c = c.fields_in.ensures ∙ ap told_count (ap elements_in (register-below c.args.child.now c.in-Register.register c.in-Register.is))

pub items_in-loop-item-init : goal.items_in-loop-item-init
items_in-loop-item-init t c = record { sum = ap told_count (zero-add _); fits = omega arith }

pub items_in-loop-item-preserved : goal.items_in-loop-item-preserved
items_in-loop-item-preserved t c = record {
  sum =
      counted_on c.more-total.result c.loop-item.total c.below.result (told_count (elements_in (siblings (map item_under c.args.items.now)))) (item_under c.item-item.result).0 (item_under c.item-item.result).1 (map item_under (drop (c.loop-item.item-index + 1) c.args.items.now)) (map item_under (drop c.loop-item.item-index c.args.items.now))
      (item-counted c.item-item.result) (items-next c.args.items.now c.loop-item.item-index c.item-item.result c.loop-item-test.true c.item-item.is)
      (c.below.ensures ∙ ap told_count (ap elements_in (sym (item-below c.item-item.result))))
      (c.more-total.ensures ∙ ap (λ n. told_count (c.loop-item.total + n)) c.more.ensures) c.loop-item.invariant.sum;
  fits = told-fits c.more-total.result _ c.more-total.ensures;
}

pub items_in-returns : goal.items_in-returns
items_in-returns t c =
    counted_all c.loop-item.total (told_count (elements_in (siblings (map item_under c.args.items.now)))) (map item_under (drop c.loop-item.item-index c.args.items.now)) c.loop-item.invariant.fits (items-none c.args.items.now c.loop-item.item-index c.loop-item-test.false) c.loop-item.invariant.sum
