use Rattle.std.proofs.Common.{arith, ◌∙◌, map, sym, ap}
use Rattle.indexmap.proofs.MapLemmas.{OnOk-map}
use Rattle.derive_sources.proofs.Listed.{grown, peripheral-names}
use Rattle.derive_sources.specs.Entries.{with_rest}
use Rattle.svd_model.specs.Trees.{peripheral_under, item_under}
use Rattle.svd_rows.specs.Forest.{siblings}
use Rattle.derive_sources.proofs.listing.add_peripheral.Goals as goal

pub returns : goal.returns
returns c =
    OnOk-map c.add_items.result _ _
    (λ below. grown c.args.entries.now.items c.push.new.entries.items c.add_items.new.entries.items c.args.parent c.len-number.result c.bytes.result.now _ (peripheral_under (c.args.key.now, c.args.peripheral.now)).0 (peripheral_under (c.args.key.now, c.args.peripheral.now)).1
    c.in_ok-push.ensures c.bytes.ensures.same (c.lent.ensures ∙ sym (peripheral-names c.args.peripheral.now)) (omega (arith, c.len-number.ensures, c.args.entries.now.ok.0))
    (below ∙ ap (λ items. with_rest c.push.new.entries.items c.len-number.result (siblings (map item_under items))) c.as_slice.ensures.value))
    c.add_items.ensures
