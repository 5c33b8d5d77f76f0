-- The places that a script calls, and their presets, as they are gathered and made.
use Rattle.std.specs.Prelude.{◌≡◌, ◌≤◌, ◌<◌, ◌+◌, ◌^◌, List, [], ◌∷◌, ◌++◌, map, filter_map, Option, Some, None, option_map, Result, Ok, Err, if◌then◌else◌}
use Rattle.std.specs.List.{list_any}
use Rattle.pac_base.specs.Widths.{bits_of}
use Rattle.pac_base.specs.declared.memory.NoMemory.{NoMemory}
use Rattle.pac_bus.specs.Acts.Act.{sets}
use Rattle.pac_bus.specs.Telling.{BusTold, Did}
use Rattle.pac_bus.specs.Widths.{bytes_of}
use Rattle.pac_bus.specs.declared.access.Preset.{Preset as BusPreset}
use Rattle.frag_tree.specs.declared.statement.Place.{Place}
use Rattle.frag_tree.specs.Trees.{CrateTree}
use Rattle.frag_sem.specs.CallPlaces.{RegisterAt}
use Rattle.frag_sem.specs.Presets.{Preset, preset_of, same_place}
use Rattle.frag_sem.specs.TextMeaning.{acts_at, text_at}
use Rattle.frag_eval.specs.declared.preset.Called.{Called}
use Rattle.frag_eval.specs.Keys.{key_seen}

-- a preset of a bus, as scripts have it
abbrev pub preset_seen : BusPreset → Preset
preset_seen preset = record { address = preset.address; width = preset.width; value = preset.value }

-- the places that were called
abbrev pub places_seen : Called → List Place
places_seen called = map key_seen called.seen.keys

-- the presets of the registers that stand at places
abbrev pub presets_at : CrateTree → List Place → List Preset
presets_at krate places = filter_map (λ place. option_map preset_of (text_at krate place)) places

-- the preset of a register, if there is one
abbrev pub preset_at : Option RegisterAt → List Preset
preset_at None = []
preset_at (Some found) = preset_of (acts_at found) ∷ []

-- A place was taken in, unless it was called before; and so was its preset.
pub record AddsPlace (krate : CrateTree) (place : Place) (old now : Called) : Type 0 where
  pub places : places_seen now ≡ (if list_any (λ other. same_place other place) (places_seen old) then places_seen old else places_seen old ++ place ∷ [])
  pub presets : map preset_seen old.presets.items ≡ presets_at krate (places_seen old) → map preset_seen now.presets.items ≡ presets_at krate (places_seen now)

-- a preset that a bus takes
abbrev pub IsHeld : BusPreset → Type 0
IsHeld preset = (preset.address + bytes_of preset.width ≤ 2 ^ 64) × (preset.value < 2 ^ bits_of preset.width)

-- the first of these presets were made
pub record SetSome (old now : BusTold) (presets : List BusPreset) : Type 0 where
  pub made : List BusPreset
  pub later : List BusPreset
  pub all : presets ≡ made ++ later
  pub preset : Did old now (map sets made)

abbrev pub SetsAll : {T : Type 0} → Result T NoMemory → BusTold → BusTold → List BusPreset → Type 0
SetsAll (Ok value) old now presets = Did old now (map sets presets)
SetsAll (Err fault) old now presets = SetSome old now presets
