use Rattle.std.proofs.Common.{◌+◌, zero-add, refl, map, arith, ap, ◌∙◌}
use Rattle.svd_model.specs.Counting.{told_count, elements_in}
use Rattle.svd_model.specs.Steps.{peripheral}
use Rattle.svd_model.specs.Trees.{item_under, peripheral_under, peripheral_tree, step_of}
use Rattle.svd_rows.specs.Forest.{siblings}
use Rattle.svd_model.proofs.Counts.{counted_on, counted_all, told-fits}
use Rattle.svd_model.proofs.counting.peripherals_in.Goals as goal

pub loop-peripheral-init : goal.loop-peripheral-init
loop-peripheral-init c = record { sum = ap told_count (zero-add _) ∙ ap (λ entries. told_count (elements_in (siblings (map peripheral_under entries)))) c.into_iter-peripheral-iterator.ensures.into_iter_gives.0; fits = omega arith }

pub loop-peripheral-preserved : goal.loop-peripheral-preserved
loop-peripheral-preserved c = record {
  sum =
      counted_on c.more-total.result c.loop-peripheral.total c.items_in.result (told_count (elements_in (siblings (map peripheral_under c.args.peripherals.now.entries)))) (step_of peripheral c.in-Some.field-0-0.now) (peripheral_tree c.in-Some.peripheral.now) (map peripheral_under c.next.new.self) (map peripheral_under c.loop-peripheral.peripheral-iterator)
      refl (ap (map peripheral_under) c.in-Some.ensures.steps) (c.items_in.ensures ∙ ap (λ items. told_count (elements_in (siblings (map item_under items)))) c.as_slice.ensures.value)
      (c.more-total.ensures ∙ ap (λ n. told_count (c.loop-peripheral.total + n)) c.more.ensures) c.loop-peripheral.invariant.sum;
  fits = told-fits c.more-total.result _ c.more-total.ensures;
}

pub returns : goal.returns
returns c =
    counted_all c.loop-peripheral.total (told_count (elements_in (siblings (map peripheral_under c.args.peripherals.now.entries)))) (map peripheral_under c.loop-peripheral.peripheral-iterator) c.loop-peripheral.invariant.fits (ap (map peripheral_under) c.in-None.ensures.steps.0) c.loop-peripheral.invariant.sum
