use Rattle.std.proofs.Common.{map, arith, ap, zero-add}
use Rattle.svd_model.specs.Counting.{told_count, elements_in}
use Rattle.svd_model.specs.Steps.{set}
use Rattle.svd_model.specs.Trees.{set_tree, numbered}
use Rattle.svd_model.proofs.Counts.{sets-on, sets-all, told-fits}
use Rattle.svd_model.proofs.counting.values_in.Goals as goal

pub loop-values-init : goal.loop-values-init
loop-values-init c = record { sum = ap told_count (zero-add _); fits = omega arith }

pub loop-values-preserved : goal.loop-values-preserved
loop-values-preserved c = record {
  sum =
      sets-on c.more-total.result c.loop-values.total c.len.result (told_count (elements_in (numbered set 0 (map set_tree c.args.sets.now)))) c.loop-values.values-index c.args.sets.now c.values-item.result
      c.loop-values-test.true c.values-item.is (omega (arith, c.len.ensures, c.values-item.result.items.ok.0)) c.more-total.ensures c.loop-values.invariant.sum;
  fits = told-fits c.more-total.result _ c.more-total.ensures;
}

pub returns : goal.returns
returns c =
    sets-all c.loop-values.total (told_count (elements_in (numbered set 0 (map set_tree c.args.sets.now)))) c.loop-values.values-index c.args.sets.now c.loop-values.invariant.fits c.loop-values-test.false c.loop-values.invariant.sum
