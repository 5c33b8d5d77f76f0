use Rattle.std.proofs.Common.{map, refl}
use Rattle.patch_model.specs.Acts.{opens}
use Rattle.patch_edits.proofs.Applying.{device-applied, device-folded}
use Rattle.patch_edits.proofs.Deleting.{opening-agrees, opening-distinct, opening-every, opening-shrinks}
use Rattle.patch_edits.proofs.Recounting.{device-counted}
use Rattle.patch_edits.specs.Commands.{order_at}
use Rattle.patch_edits.specs.Deletions.{opened_below}
use Rattle.patch_sem.specs.Selecting.{selects}
use Rattle.svd_model.specs.Facts.{IsElement, IsPlacedOrDerived}
use Rattle.svd_model.specs.Trees.{device_places, device_tree, peripheral_under}
use Rattle.svd_rows.specs.Forest.{siblings}
use Rattle.svd_rows.specs.Ranks.{stated}
use Rattle.patch_edits.proofs.opening.open.Goals as goal

pub returns-clause-applied : goal.returns-clause-applied
unfolding device_tree device_places
returns-clause-applied c =
    device-applied (order_at c.args.line c.args.parents.now (opens c.args.pattern.now)) (opened_below c.args.line c.args.pattern.now)
    (opening-agrees c.args.line c.args.pattern.now c.args.parents.now) (opening-shrinks c.args.line c.args.pattern.now)
    (stated (device_places c.args.device.now)) (siblings (map peripheral_under c.args.device.now.peripherals.entries)) (siblings (map peripheral_under c.walk.new.peripherals.entries))
    c.walk.result c.requires.described.distinct c.requires.described.few refl c.walk.ensures.edited

pub returns-clause-described : goal.returns-clause-described
unfolding device_tree device_places
returns-clause-described c =
    device-folded IsPlacedOrDerived (opened_below c.args.line c.args.pattern.now) (map selects c.args.parents.now) (opening-shrinks c.args.line c.args.pattern.now)
    (opening-every c.args.line c.args.pattern.now (IsElement IsPlacedOrDerived)) (opening-distinct c.args.line c.args.pattern.now)
    (stated (device_places c.args.device.now)) (siblings (map peripheral_under c.args.device.now.peripherals.entries)) (siblings (map peripheral_under c.walk.new.peripherals.entries))
    c.walk.result c.requires.described c.walk.ensures.edited

pub returns-clause-counted : goal.returns-clause-counted
unfolding device_tree device_places
returns-clause-counted c =
    device-counted IsPlacedOrDerived (stated (device_places c.args.device.now)) (siblings (map peripheral_under c.args.device.now.peripherals.entries)) (siblings (map peripheral_under c.walk.new.peripherals.entries))
    c.args.total.now c.walk.new.total c.walk.result c.requires.described.few c.requires.counted (returns-clause-described c) c.walk.ensures.counted
