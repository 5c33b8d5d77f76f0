-- What a bus tells, and how it changes by acts. This project's own rule.
use Rattle.std.specs.Prelude.{ℕ, ◌≡◌, ◌≤◌, ◌+◌, List, [], ◌∷◌, ◌++◌, length, Option, Some, None}
use Rattle.pac_bus.specs.declared.access.BusAccess.{BusAccess}
use Rattle.pac_bus.specs.declared.access.Preset.{Preset}
use Rattle.pac_bus.specs.declared.device_row.DevRow.{DevRow}
use Rattle.pac_bus.specs.Acts.{Act, Gives, Kept, Fits}
use Rattle.pac_bus.specs.Acts.Act.{sets, does}

-- a told device: the rows that describe it, and the acts since it was described
pub record Device : Type 0 where
  pub rows : List DevRow
  pub acts : List Act

-- What a bus tells: the accesses made, the presets made, for how many more accesses there is room, what it gives to reads, its device where it tells one, and how many calls failed.
pub record BusTold : Type 0 where
  pub log : List BusAccess
  pub set : List Preset
  pub spare : ℕ
  pub gives : Gives
  pub device : Option Device
  pub faults : ℕ

-- the accesses among acts
abbrev pub accesses : List Act → List BusAccess
accesses [] = []
accesses (sets preset ∷ acts) = accesses acts
accesses (does access ∷ acts) = access ∷ accesses acts

-- the presets among acts
abbrev pub presets : List Act → List Preset
presets [] = []
presets (sets preset ∷ acts) = preset ∷ presets acts
presets (does access ∷ acts) = presets acts

-- a told device after these acts too
abbrev pub and_acts : Option Device → List Act → Option Device
and_acts None acts = None
and_acts (Some device) acts = Some (record { rows = device.rows; acts = device.acts ++ acts })

-- a told device that is described by these rows, with no act yet
abbrev pub described : Option Device → List DevRow → Option Device
described None rows = None
described (Some device) rows = Some (record { rows = rows; acts = [] })

-- Exactly these acts were done: the log and the presets grew by them, room fell by at most one for each access, each read had a value that was given, and what is given is kept of the acts.
pub record Did (old now : BusTold) (acts : List Act) : Type 0 where
  pub logged : now.log ≡ old.log ++ accesses acts
  pub preset : now.set ≡ old.set ++ presets acts
  pub room : old.spare ≤ now.spare + length (accesses acts)
  pub fit : Fits old.gives acts
  pub kept : now.gives ≡ Kept old.gives acts
  pub grew : now.device ≡ and_acts old.device acts
  pub no_fault : now.faults ≡ old.faults

-- nothing was done yet, there is no room, and no call failed
pub record HoldsNothing (told : BusTold) : Type 0 where
  pub no_access : told.log ≡ []
  pub no_preset : told.set ≡ []
  pub no_room : told.spare ≡ 0
  pub no_fault : told.faults ≡ 0
