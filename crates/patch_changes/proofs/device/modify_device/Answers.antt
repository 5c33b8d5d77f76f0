use Rattle.std.proofs.Common.{ap, refl, sym, ◌∙◌}
use Rattle.patch_changes.proofs.DeviceKeys.{device-kept, device-modified}
use Rattle.svd_model.proofs.Placed.{device-placed}
use Rattle.patch_edits.specs.Visits.{Below}
use Rattle.svd_model.specs.Counting.{elements_in, told_count}
use Rattle.svd_model.specs.Facts.{IsPlacedOrDerived}
use Rattle.svd_model.specs.Trees.{device_places, device_tree}
use Rattle.patch_changes.proofs.device.modify_device.Goals as goal

pub returns-in-Ok-clause-applied : goal.returns-in-Ok-clause-applied
unfolding device_tree device_places
returns-in-Ok-clause-applied c =
    device-modified IsPlacedOrDerived c.args.line c.args.parents.now c.args.keys.now (device_places c.args.device.now) (device_tree c.args.device.now) (device_tree c.set_device_keys.new.device) (device-placed c.args.device.now) refl refl c.requires c.in-Ok.ensures

pub returns-in-Ok-clause-described : goal.returns-in-Ok-clause-described
returns-in-Ok-clause-described c = device-kept IsPlacedOrDerived c.args.keys.now (device_tree c.args.device.now) (device_tree c.set_device_keys.new.device) c.requires c.in-Ok.ensures

pub returns-in-Ok-clause-counted : goal.returns-in-Ok-clause-counted
returns-in-Ok-clause-counted c = λ total e. e ∙ ap (λ (f : Below). told_count (elements_in f)) (sym c.in-Ok.ensures.below)
