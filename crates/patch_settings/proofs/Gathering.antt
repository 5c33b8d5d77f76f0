-- The settings of keys, gathered from the front: what those to come set over what is set already.
use Rattle.std.proofs.Common.{◌≡◌, ℕ, ◌+◌, ◌<◌, ◌≤◌, List, drop, flat_map, get_or, length, sym, ap, ap₂, ◌∙◌}
use Rattle.std.proofs.lemmas.List.{drop_all}
use Rattle.patch_model.specs.Acts.{KeyList}
use Rattle.patch_sem.specs.Settings.{key_set, keys_set, listed, of_place, place_in}
use Rattle.patch_settings.proofs.LookingUp.{next}
use Rattle.patch_settings.proofs.Placing.{placed-append}
use Rattle.patch_settings.specs.Places.{KeyPlaces, none_placed, placed}
use Rattle.svd_model.specs.Keys.{Key}
use Rattle.svd_schema.specs.declared.container.Container.{Container}
use Rattle.svd_values.specs.declared.place.Place.{Place}

abbrev pub each_set : Container → KeyList → List Key
each_set held keys = flat_map (λ (entry : List ℕ × List ℕ). listed (key_set held entry.0 entry.1)) keys

module _ (held : Container) (keys : KeyList) where
  abbrev pub Gathered : KeyPlaces → ℕ → Type 0
  Gathered now i = placed (each_set held (drop i keys)) now ≡ placed (each_set held keys) none_placed

  pub gathered-start : (now : KeyPlaces) → now ≡ none_placed → Gathered now 0
  gathered-start now is = ap (placed (each_set held keys)) is

  pub gathered-more : (now new : KeyPlaces) (i : ℕ) (entry : List ℕ × List ℕ) → i < length keys → entry ≡ get_or keys i entry → new ≡ placed (listed (key_set held entry.0 entry.1)) now → Gathered now i → Gathered new (i + 1)
  gathered-more now new i entry within is put gathered =
      ap (placed (each_set held (drop (i + 1) keys))) put
      ∙ sym (placed-append (listed (key_set held entry.0 entry.1)) (each_set held (drop (i + 1) keys)) now)
      ∙ ap (λ (left : KeyList). placed (each_set held left) now) (sym (next keys i entry within is))
      ∙ gathered

  pub gathered-end : (now new : KeyPlaces) (i : ℕ) (place : Place) → length keys ≤ i → of_place place ≡ place_in held keys → new ≡ placed (of_place place) now → Gathered now i → new ≡ placed (keys_set held keys) none_placed
  unfolding keys_set placed
  gathered-end now new i place past at put gathered =
      put
      ∙ ap₂ (λ (set : List Key) (all : KeyPlaces). placed set all) at (ap (λ (left : KeyList). placed (each_set held left) now) (sym (drop_all i keys past)) ∙ gathered)
      ∙ sym (placed-append (each_set held keys) (place_in held keys) none_placed)
