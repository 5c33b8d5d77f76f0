use Rattle.std.proofs.Common.{◌+◌, ◌∙◌, map, drop, None, refl, sym, ap}
use Rattle.derive_sources.proofs.Listed.{grown, lists_none, one_placed, none_placed, value-names}
use Rattle.svd_model.proofs.Lists.{from_place, drop_past}
use Rattle.svd_model.specs.Steps.{value}
use Rattle.svd_model.specs.Trees.{value_tree}
use Rattle.derive_sources.proofs.listing.add_values.Goals as goal

pub loop-variant-preserved : goal.loop-variant-preserved
loop-variant-preserved c =
    one_placed value c.loop-variant.variant-index c.loop-variant.entries.items c.push.new.entries.items c.args.parent (value_tree c.variant-item.result) (map value_tree (drop c.loop-variant.variant-index c.args.values.now)) (map value_tree (drop (c.loop-variant.variant-index + 1) c.args.values.now)) _
    (ap (map value_tree) (from_place c.args.values.now c.loop-variant.variant-index c.variant-item.result c.loop-variant-test.true c.variant-item.is))
    (grown c.loop-variant.entries.items c.push.new.entries.items c.push.new.entries.items c.args.parent _ c.as_bytes.result.now None (record { kind = value; name = c.variant-item.result.name; number = c.loop-variant.variant-index }) (value_tree c.variant-item.result).1
    c.in_ok-push.ensures (c.as_bytes.ensures.value ∙ c.as_str.ensures) (sym (value-names c.variant-item.result)) refl (lists_none c.push.new.entries.items _))
    c.loop-variant.invariant

pub returns : goal.returns
returns c =
    none_placed value c.loop-variant.variant-index c.loop-variant.entries.items c.args.parent (map value_tree (drop c.loop-variant.variant-index c.args.values.now)) _
    (ap (map value_tree) (drop_past c.args.values.now c.loop-variant.variant-index c.loop-variant-test.false)) c.loop-variant.invariant
