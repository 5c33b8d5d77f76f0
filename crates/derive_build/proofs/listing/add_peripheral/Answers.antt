use Rattle.std.proofs.Common.{◌∙◌, map, ap, refl}
use Rattle.indexmap.proofs.MapLemmas.{OnOk-map}
use Rattle.derive_build.proofs.Listed.{grown}
use Rattle.derive_build.specs.Nodes.{with_rest}
use Rattle.svd_model.specs.Trees.{peripheral_under, item_under}
use Rattle.svd_rows.specs.Forest.{siblings}
use Rattle.derive_build.proofs.listing.add_peripheral.Goals as goal

pub returns : goal.returns
returns c =
    OnOk-map c.add_items.result _ _
    (λ below. grown c.args.owns.now.items c.push.new.owns.items c.add_items.new.owns.items _ (peripheral_under (c.args.key.now, c.args.peripheral.now)).0 (peripheral_under (c.args.key.now, c.args.peripheral.now)).1
    c.in_ok-push.ensures refl
    (below ∙ ap (λ items. with_rest c.push.new.owns.items (siblings (map item_under items))) c.as_slice.ensures.value))
    c.add_items.ensures
