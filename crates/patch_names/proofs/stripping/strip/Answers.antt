use Rattle.std.proofs.Common.{ℕ, List, None, map, refl, subst, ◌∙◌}
use Rattle.patch_edits.proofs.Applying.{device-applied, device-folded}
use Rattle.patch_edits.proofs.Recounting.{device-counted}
use Rattle.patch_edits.specs.Commands.{order_at}
use Rattle.patch_edits.specs.Edits.{Edited}
use Rattle.patch_edits.specs.Visits.{visited}
use Rattle.patch_model.specs.Acts.{strips}
use Rattle.patch_names.proofs.Stripped.{strip-agrees, strip-distinct, strip-every, strip-shrinks}
use Rattle.patch_names.specs.Renaming.{stripped_below}
use Rattle.patch_sem.specs.Selecting.{selects}
use Rattle.svd_model.specs.Facts.{IsPlacedOrDerived}
use Rattle.svd_model.specs.Trees.{device_places, device_tree, peripheral_under}
use Rattle.svd_rows.specs.Forest.{siblings}
use Rattle.svd_rows.specs.Ranks.{stated}
use Rattle.patch_names.proofs.stripping.strip.Goals as goal

pub returns-clause-applied : goal.returns-clause-applied
unfolding device_tree device_places
returns-clause-applied c =
    device-applied (order_at c.args.line c.args.parents.now (strips c.args.prefix.now)) (stripped_below c.args.line c.args.prefix.now)
    (strip-agrees c.args.line c.args.prefix.now c.args.parents.now) (strip-shrinks c.args.line c.args.prefix.now)
    (stated (device_places c.args.device.now)) (siblings (map peripheral_under c.args.device.now.peripherals.entries)) (siblings (map peripheral_under c.walk.new.peripherals.entries))
    c.walk.result c.requires.described.distinct c.requires.described.few refl
    (subst (λ (prefix : List ℕ). Edited (visited (stripped_below c.args.line prefix) (map selects c.args.parents.now) None (siblings (map peripheral_under c.args.device.now.peripherals.entries))) (siblings (map peripheral_under c.walk.new.peripherals.entries)) c.walk.result) (c.as_bytes.ensures.value ∙ c.as_str.ensures) c.walk.ensures.edited)

pub returns-clause-described : goal.returns-clause-described
unfolding device_tree device_places
returns-clause-described c =
    device-folded IsPlacedOrDerived (stripped_below c.args.line c.as_bytes.result.now) (map selects c.args.parents.now) (strip-shrinks c.args.line c.as_bytes.result.now)
    (strip-every IsPlacedOrDerived c.args.line c.as_bytes.result.now) (strip-distinct c.args.line c.as_bytes.result.now)
    (stated (device_places c.args.device.now)) (siblings (map peripheral_under c.args.device.now.peripherals.entries)) (siblings (map peripheral_under c.walk.new.peripherals.entries))
    c.walk.result c.requires.described c.walk.ensures.edited

pub returns-clause-counted : goal.returns-clause-counted
unfolding device_tree device_places
returns-clause-counted c =
    device-counted IsPlacedOrDerived (stated (device_places c.args.device.now)) (siblings (map peripheral_under c.args.device.now.peripherals.entries)) (siblings (map peripheral_under c.walk.new.peripherals.entries))
    c.args.total.now c.walk.new.total c.walk.result c.requires.described.few c.requires.counted (returns-clause-described c) c.walk.ensures.counted
