-- What each call of a bus does, case by case. This project's own rule.
use Rattle.std.specs.Prelude.{ℕ, ◌≡◌, ◌≤◌, ◌<◌, ◌^◌, List, [], ◌∷◌, true, false, Result, Ok, Err}
use Rattle.pac_base.specs.declared.memory.NoMemory.{NoMemory}
use Rattle.pac_base.specs.declared.width.Width.{Width}
use Rattle.pac_base.specs.Widths.{bits_of}
use Rattle.pac_io.specs.Rose.{Rose}
use Rattle.pac_bus.specs.declared.access.BusAccess.{BusAccess}
use Rattle.pac_bus.specs.declared.access.BusFailed.{BusFailed}
use Rattle.pac_bus.specs.declared.access.Preset.{Preset}
use Rattle.pac_bus.specs.declared.device_row.DevRow.{DevRow}
use Rattle.pac_bus.specs.Acts.Act.{sets, does}
use Rattle.pac_bus.specs.Telling.{BusTold, Did, described}

-- a read that gave this value
abbrev pub a_read : ℕ → Width → ℕ → BusAccess
a_read address width value = record { write = false; address = address; width = width; value = value }

-- a write of this value
abbrev pub a_write : ℕ → Width → ℕ → BusAccess
a_write address width value = record { write = true; address = address; width = width; value = value }

-- a preset of this value
abbrev pub a_preset : ℕ → Width → ℕ → Preset
a_preset address width value = record { address = address; width = width; value = value }

-- The bus failed: its count of faults rose, and nothing else changed.
pub record Failed (old now : BusTold) : Type 0 where
  pub rose : Rose old.faults now.faults
  pub same_log : now.log ≡ old.log
  pub same_set : now.set ≡ old.set
  pub same_spare : now.spare ≡ old.spare
  pub same_gives : now.gives ≡ old.gives
  pub same_device : now.device ≡ old.device

-- a read of this value was made, which is one of its width
pub record ReadsValue (old now : BusTold) (address : ℕ) (width : Width) (value : ℕ) : Type 0 where
  pub below : value < 2 ^ bits_of width
  pub done : Did old now (does (a_read address width value) ∷ [])

-- a read is exactly one access, or the bus failed
abbrev pub Reads : Result ℕ BusFailed → BusTold → BusTold → ℕ → Width → Type 0
Reads (Ok value) old now address width = ReadsValue old now address width value
Reads (Err fault) old now address width = Failed old now

-- a write is exactly one access, or the bus failed
abbrev pub Writes : {T : Type 0} → Result T BusFailed → BusTold → BusTold → BusAccess → Type 0
Writes (Ok value) old now access = Did old now (does access ∷ [])
Writes (Err fault) old now access = Failed old now

-- a preset is made, or nothing is done
abbrev pub Presets : {T : Type 0} → Result T NoMemory → BusTold → BusTold → Preset → Type 0
Presets (Ok value) old now preset = Did old now (sets preset ∷ [])
Presets (Err fault) old now preset = Did old now []

-- nothing was done, and there is room for so many accesses
pub record HasRoom (old now : BusTold) (count : ℕ) : Type 0 where
  pub nothing : Did old now []
  pub enough : count ≤ now.spare

-- room is made, or nothing is done
abbrev pub Readies : {T : Type 0} → Result T NoMemory → BusTold → BusTold → ℕ → Type 0
Readies (Ok value) old now count = HasRoom old now count
Readies (Err fault) old now count = Did old now []

-- Where a device is told it is now described by these rows; whether one is told doesn't change, and nor does anything else.
pub record IsDescribed (old now : BusTold) (rows : List DevRow) : Type 0 where
  pub same_log : now.log ≡ old.log
  pub same_set : now.set ≡ old.set
  pub same_spare : now.spare ≡ old.spare
  pub same_gives : now.gives ≡ old.gives
  pub device : now.device ≡ described old.device rows
  pub no_fault : now.faults ≡ old.faults

-- a device is described, or all stays as it was
abbrev pub Describes : {T : Type 0} → Result T NoMemory → BusTold → BusTold → List DevRow → Type 0
Describes (Ok value) old now rows = IsDescribed old now rows
Describes (Err fault) old now rows = now ≡ old
