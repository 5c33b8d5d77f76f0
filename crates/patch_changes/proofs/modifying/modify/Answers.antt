use Rattle.std.proofs.Common.{ℕ, List, None, Option, map, refl, subst}
use Rattle.patch_changes.proofs.Kept.{TypedAt, changing-agrees, changing-shrinks, device-changed, typed-down}
use Rattle.patch_changes.specs.Changes.{changed_below, changed_with}
use Rattle.patch_edits.proofs.Applying.{device-applied-where}
use Rattle.patch_edits.proofs.Recounting.{device-counted}
use Rattle.patch_edits.specs.Commands.{order_at}
use Rattle.patch_edits.specs.Edits.{Edited}
use Rattle.patch_edits.specs.Visits.{visited}
use Rattle.patch_growth.proofs.Typed.{peripherals-typed}
use Rattle.patch_model.specs.Acts.{modifies}
use Rattle.patch_sem.specs.Modifying.{new_name}
use Rattle.patch_sem.specs.Selecting.{selects}
use Rattle.svd_model.specs.Facts.{IsPlacedOrDerived}
use Rattle.svd_model.specs.Trees.{device_places, device_tree, peripheral_under}
use Rattle.svd_rows.specs.Forest.{siblings}
use Rattle.svd_rows.specs.Ranks.{stated}
use Rattle.patch_changes.proofs.modifying.modify.Goals as goal

pub returns-clause-applied : goal.returns-clause-applied
unfolding device_tree device_places
returns-clause-applied c =
    device-applied-where TypedAt typed-down (order_at c.args.line c.args.parents.now (modifies c.args.pattern.now c.args.keys.now)) (changed_below c.args.line c.args.pattern.now c.args.keys.now)
    (changing-agrees c.args.line c.args.pattern.now c.args.keys.now c.args.parents.now) (changing-shrinks c.args.line c.args.pattern.now c.args.keys.now (new_name c.args.keys.now))
    (stated (device_places c.args.device.now)) (siblings (map peripheral_under c.args.device.now.peripherals.entries)) (siblings (map peripheral_under c.walk.new.peripherals.entries))
    c.walk.result (peripherals-typed c.args.device.now.peripherals.entries) c.requires.described.distinct c.requires.described.few refl
    (subst (λ (name : Option (List ℕ)). Edited (visited (changed_with c.args.line c.args.pattern.now c.args.keys.now name) (map selects c.args.parents.now) None (siblings (map peripheral_under c.args.device.now.peripherals.entries))) (siblings (map peripheral_under c.walk.new.peripherals.entries)) c.walk.result) c.in-Ok.ensures c.walk.ensures.edited)

pub returns-clause-described : goal.returns-clause-described
unfolding device_tree device_places
returns-clause-described c =
    device-changed c.args.line c.args.pattern.now c.args.keys.now c.in-Ok.name c.args.parents.now (stated (device_places c.args.device.now)) (siblings (map peripheral_under c.args.device.now.peripherals.entries)) (siblings (map peripheral_under c.walk.new.peripherals.entries))
    c.walk.result c.requires.described (peripherals-typed c.args.device.now.peripherals.entries) c.walk.ensures.edited

pub returns-clause-counted : goal.returns-clause-counted
unfolding device_tree device_places
returns-clause-counted c =
    device-counted IsPlacedOrDerived (stated (device_places c.args.device.now)) (siblings (map peripheral_under c.args.device.now.peripherals.entries)) (siblings (map peripheral_under c.walk.new.peripherals.entries))
    c.args.total.now c.walk.new.total c.walk.result c.requires.described.few c.requires.counted (returns-clause-described c) c.walk.ensures.counted
