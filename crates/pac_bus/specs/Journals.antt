-- What a bus keeps of its calls.
use Rattle.std.specs.Prelude.{ℕ, ◌≡◌, ◌≤◌, ◌+◌, List, [], ◌∷◌, ◌++◌, None}
use Rattle.pac_bus.specs.declared.access.BusAccess.{BusAccess}
use Rattle.pac_bus.specs.declared.access.Preset.{Preset}
use Rattle.pac_bus.specs.Acts.{Gives}
use Rattle.pac_bus.specs.Telling.{BusTold}

-- the accesses made, the presets made, and for how many more accesses there is room
pub record History : Type 0 where
  pub log : List BusAccess
  pub set : List Preset
  pub spare : ℕ

-- one more access was made, and there is room for one less at most
pub record IsLogged (old new : History) (access : BusAccess) : Type 0 where
  pub one_more : new.log ≡ old.log ++ access ∷ []
  pub same_set : new.set ≡ old.set
  pub room : old.spare ≤ new.spare + 1

-- one more preset was made, and nothing else changed
pub record IsPreset (old new : History) (preset : Preset) : Type 0 where
  pub one_more : new.set ≡ old.set ++ preset ∷ []
  pub same_log : new.log ≡ old.log
  pub same_spare : new.spare ≡ old.spare

-- what a bus without a device tells
abbrev pub told_by : History → Gives → ℕ → BusTold
told_by history gives faults = record {
  log = history.log;
  set = history.set;
  spare = history.spare;
  gives = gives;
  device = None;
  faults = faults;
}
