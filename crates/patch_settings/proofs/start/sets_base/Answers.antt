use Rattle.std.proofs.Common.{refl, ap, ◌∙◌}
use Rattle.patch_sem.specs.Settings.{keys_set}
use Rattle.patch_settings.proofs.Filled.{filled, sets-filled, stated-filled}
use Rattle.patch_settings.specs.Places.{KeyPlaces, places}
use Rattle.svd_model.specs.Keys.{base_address}
use Rattle.svd_schema.specs.declared.container.Container.TheVariants as container
use Rattle.patch_settings.proofs.start.sets_base.Goals as goal

pub returns : goal.returns
unfolding places
returns c =
    c.is_some.ensures
    ∙ stated-filled base_address c.in_ok-settings.settings.base
    ∙ ap (λ (all : KeyPlaces). filled all 5) c.in_ok-settings.ensures
    ∙ sets-filled 5 (keys_set container.Peripheral c.args.keys.now) refl
