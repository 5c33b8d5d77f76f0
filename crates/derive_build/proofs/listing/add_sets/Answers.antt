use Rattle.std.proofs.Common.{◌+◌, map, drop, ap}
use Rattle.derive_build.proofs.Listed.{one_placed, none_placed}
use Rattle.svd_model.proofs.Lists.{from_place, drop_past}
use Rattle.svd_model.specs.Steps.{set}
use Rattle.svd_model.specs.Trees.{set_tree}
use Rattle.derive_build.proofs.listing.add_sets.Goals as goal

pub loop-values-preserved : goal.loop-values-preserved
loop-values-preserved c =
    one_placed set c.loop-values.values-index c.loop-values.owns.items c.add_set.new.owns.items (set_tree c.values-item.result) (map set_tree (drop c.loop-values.values-index c.args.sets.now)) (map set_tree (drop (c.loop-values.values-index + 1) c.args.sets.now)) _
    (ap (map set_tree) (from_place c.args.sets.now c.loop-values.values-index c.values-item.result c.loop-values-test.true c.values-item.is))
    (c.in_ok-add_set.ensures c.loop-values.values-index) c.loop-values.invariant

pub returns : goal.returns
returns c =
    none_placed set c.loop-values.values-index c.loop-values.owns.items (map set_tree (drop c.loop-values.values-index c.args.sets.now)) _
    (ap (map set_tree) (drop_past c.args.sets.now c.loop-values.values-index c.loop-values-test.false)) c.loop-values.invariant
