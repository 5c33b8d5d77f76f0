-- What the walk leaves, as a command at the device.
use Rattle.std.proofs.Common.{map, refl}
use Rattle.patch_edits.proofs.Applying.{device-applied}
use Rattle.patch_edits.proofs.Recounting.{device-counted}
use Rattle.patch_edits.specs.Commands.{order_at}
use Rattle.patch_model.specs.Acts.{arrays}
use Rattle.patch_arrays.proofs.Agreeing.{array-agrees}
use Rattle.patch_arrays.proofs.Alike.{peripherals-apart}
use Rattle.patch_arrays.proofs.Capping.{walk-exact}
use Rattle.patch_arrays.proofs.Fewer.{array-shrinks}
use Rattle.patch_arrays.proofs.Folding.{array-folded}
use Rattle.patch_arrays.proofs.Keeping.{array-distinct, array-every}
use Rattle.patch_arrays.specs.Arranging.{arrayed_below, exact}
use Rattle.patch_sem.specs.Selecting.{selects}
use Rattle.svd_model.specs.Facts.{IsPlacedOrDerived}
use Rattle.svd_model.specs.Trees.{device_places, device_tree, peripheral_under}
use Rattle.svd_rows.specs.Forest.{siblings}
use Rattle.svd_rows.specs.Ranks.{stated}
use Rattle.patch_arrays.proofs.arranging.array.Goals as goal

pub returns-clause-applied : goal.returns-clause-applied
unfolding device_tree device_places
returns-clause-applied c =
    device-applied (order_at c.args.line c.args.parents.now (arrays c.args.pattern.now c.args.name.now)) (arrayed_below exact c.args.line c.args.pattern.now c.args.name.now)
    (array-agrees c.args.line c.args.pattern.now c.args.name.now c.args.parents.now) (array-shrinks c.args.line c.args.pattern.now c.args.name.now)
    (stated (device_places c.args.device.now)) (siblings (map peripheral_under c.args.device.now.peripherals.entries)) (siblings (map peripheral_under c.walk.new.peripherals.entries))
    c.walk.result c.requires.described.distinct c.requires.described.few refl
    (walk-exact c.args.line c.args.pattern.now c.args.name.now (map selects c.args.parents.now) c.args.device.now.peripherals.entries (siblings (map peripheral_under c.walk.new.peripherals.entries)) c.walk.result c.requires.described.elements c.walk.ensures.edited)

pub returns-clause-described : goal.returns-clause-described
unfolding device_tree device_places
returns-clause-described c =
    array-folded (arrayed_below exact c.args.line c.args.pattern.now c.args.name.now) (map selects c.args.parents.now) (array-shrinks c.args.line c.args.pattern.now c.args.name.now)
    (array-every c.args.line c.args.pattern.now c.args.name.now) (array-distinct c.args.line c.args.pattern.now c.args.name.now)
    (stated (device_places c.args.device.now)) (siblings (map peripheral_under c.args.device.now.peripherals.entries)) (siblings (map peripheral_under c.walk.new.peripherals.entries))
    c.walk.result c.requires.described (peripherals-apart c.args.device.now.peripherals.entries c.requires.described.distinct)
    (walk-exact c.args.line c.args.pattern.now c.args.name.now (map selects c.args.parents.now) c.args.device.now.peripherals.entries (siblings (map peripheral_under c.walk.new.peripherals.entries)) c.walk.result c.requires.described.elements c.walk.ensures.edited)

pub returns-clause-counted : goal.returns-clause-counted
unfolding device_tree device_places
returns-clause-counted c =
    device-counted IsPlacedOrDerived (stated (device_places c.args.device.now)) (siblings (map peripheral_under c.args.device.now.peripherals.entries)) (siblings (map peripheral_under c.walk.new.peripherals.entries))
    c.args.total.now c.walk.new.total c.walk.result c.requires.described.few c.requires.counted (returns-clause-described c) c.walk.ensures.counted
