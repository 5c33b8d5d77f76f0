use Rattle.std.proofs.Common.{map, refl}
use Rattle.patch_model.specs.Acts.{addition_under, adds_one}
use Rattle.patch_edits.specs.Commands.{order_at}
use Rattle.patch_edits.proofs.Recounting.{told-whole}
use Rattle.patch_growth.proofs.Applying.{device-grown, device-kept, device-told}
use Rattle.patch_additions.proofs.AdditionSound.{addition-sound, built-agrees}
use Rattle.patch_growth.proofs.Typed.{peripherals-typed}
use Rattle.patch_additions.specs.Additions.{built_child}
use Rattle.svd_model.specs.Counting.{elements_in}
use Rattle.svd_model.specs.Trees.{device_places, device_tree, peripheral_under}
use Rattle.svd_rows.specs.Forest.{siblings}
use Rattle.svd_rows.specs.Ranks.{stated}
use Rattle.patch_additions.proofs.addition.add.Goals as goal

pub returns-clause-applied : goal.returns-clause-applied
unfolding device_tree device_places
returns-clause-applied c =
    let f = siblings (map peripheral_under c.args.device.now.peripherals.entries) in
    device-grown (built_child c.args.line (addition_under c.args.addition.now)) (stated (device_places c.args.device.now)) f (siblings (map peripheral_under c.walk.new.peripherals.entries)) c.args.total.now c.walk.new.total
    (peripherals-typed c.args.device.now.peripherals.entries) c.requires.described (told-whole c.args.total.now (elements_in f) c.requires.counted c.requires.described.few)
    (order_at c.args.line c.args.parents.now (adds_one (addition_under c.args.addition.now))) (built-agrees c.args.line (addition_under c.args.addition.now) c.requires.registers c.requires.fields c.args.parents.now) c.walk.result refl c.walk.ensures

pub returns-clause-described : goal.returns-clause-described
unfolding device_tree device_places
returns-clause-described c =
    let f = siblings (map peripheral_under c.args.device.now.peripherals.entries) in
    device-kept (built_child c.args.line (addition_under c.args.addition.now)) (stated (device_places c.args.device.now)) f (siblings (map peripheral_under c.walk.new.peripherals.entries)) c.args.total.now c.walk.new.total
    (peripherals-typed c.args.device.now.peripherals.entries) c.requires.described (told-whole c.args.total.now (elements_in f) c.requires.counted c.requires.described.few)
    (addition-sound c.args.line (addition_under c.args.addition.now) c.requires.registers c.requires.fields) c.args.parents.now c.walk.result c.walk.ensures

pub returns-clause-counted : goal.returns-clause-counted
unfolding device_tree device_places
returns-clause-counted c =
    let f = siblings (map peripheral_under c.args.device.now.peripherals.entries) in
    device-told (built_child c.args.line (addition_under c.args.addition.now)) (stated (device_places c.args.device.now)) f (siblings (map peripheral_under c.walk.new.peripherals.entries)) c.args.total.now c.walk.new.total
    (peripherals-typed c.args.device.now.peripherals.entries) c.requires.described (told-whole c.args.total.now (elements_in f) c.requires.counted c.requires.described.few) c.args.parents.now c.walk.result c.walk.ensures
