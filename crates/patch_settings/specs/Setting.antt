-- What setting the keys of a patch does to an element.
use Rattle.std.specs.Prelude.{◌≡◌, ℕ, Bool, true, nat_eq, List}
use Rattle.std.specs.List.{list_any}
use Rattle.patch_model.specs.Acts.{KeyList}
use Rattle.patch_sem.specs.Selecting.{is_patched}
use Rattle.patch_sem.specs.Settings.{container_of, keys_set, keys_with}
use Rattle.svd_model.specs.Facts.{IsElement, IsPlacedOrDerived}
use Rattle.svd_model.specs.Keys.{Key, rank}
use Rattle.svd_model.specs.Steps.{Kind, Step}
use Rattle.svd_rows.specs.Forest.{Tree}
use Rattle.svd_schema.specs.declared.container.Container.{Container}

-- the element has the keys that the texts set, each in the place of its own, and what is below it stays
pub record IsSet (held : Container) (texts : KeyList) (old new : Tree Step Key) : Type 0 where
  pub keys : new.keys ≡ keys_with (keys_set held texts) old.keys
  pub below : new.below ≡ old.below

-- an element of a kind with the keys that the texts set in it
abbrev pub with_set : KeyList → (Kind × Tree Step Key) → (Kind × Tree Step Key)
with_set texts child =
    (child.0, record { keys = keys_with (keys_set (container_of child.0) texts) child.1.keys; below = child.1.below })

-- an element in which a patch sets keys is an element of a description
abbrev pub SettingKeepsElements : Type 0
SettingKeepsElements =
    (step : Step) (texts : KeyList) (keys : List Key) → is_patched step.kind ≡ true → IsElement IsPlacedOrDerived step keys → IsElement IsPlacedOrDerived step (keys_with (keys_set (container_of step.kind) texts) keys)

-- do the texts set the key of this rank?
abbrev pub sets_rank : ℕ → Container → KeyList → Bool
sets_rank n held texts = list_any (λ key. nat_eq (rank key) n) (keys_set held texts)
