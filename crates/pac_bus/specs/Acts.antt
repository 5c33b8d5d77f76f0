-- What a bus gives to reads, and what becomes of it by presets and writes. This project's own rule.
use Rattle.std.specs.Prelude.{ℕ, ◌≡◌, Bool, true, false, List, [], ◌∷◌, ⊤}
use Rattle.pac_base.specs.declared.width.Width.{Width}
use Rattle.pac_bus.specs.declared.access.BusAccess.{BusAccess}
use Rattle.pac_bus.specs.declared.access.Preset.{Preset}
use Rattle.pac_bus.specs.Widths.{bytes_of}
use Rattle.pac_bus.specs.Memory.{Memory, value_at, with_value}

-- what a bus gives to reads: anything, always 0, or the bytes of a memory
pub data Gives : Type 0 where
  Free : Gives
  Zeros : Gives
  Bytes : Memory → Gives

-- what is done on a bus: a preset, or an access
pub data Act : Type 0 where
  sets : Preset → Act
  does : BusAccess → Act

-- what is given after the bytes of a value were set
abbrev pub given_after : Gives → ℕ → Width → ℕ → Gives
given_after Free address width value = Free
given_after Zeros address width value = Zeros
given_after (Bytes memory) address width value = Bytes (with_value memory address (bytes_of width) value)

-- a write sets its bytes, and a read sets none
abbrev pub kept_by_access : Bool → Gives → BusAccess → Gives
kept_by_access true gives access = given_after gives access.address access.width access.value
kept_by_access false gives access = gives

-- what is given after one act
abbrev pub kept_by : Gives → Act → Gives
kept_by gives (sets preset) = given_after gives preset.address preset.width preset.value
kept_by gives (does access) = kept_by_access access.write gives access

-- what is given after these acts, one after the other
abbrev pub Kept : Gives → List Act → Gives
Kept gives [] = gives
Kept gives (act ∷ acts) = Kept (kept_by gives act) acts

-- the value is what a read at the address may give
abbrev pub IsGiven : Gives → ℕ → Width → ℕ → Type 0
IsGiven Free address width value = ⊤
IsGiven Zeros address width value = value ≡ 0
IsGiven (Bytes memory) address width value = value ≡ value_at memory address (bytes_of width)

-- a read has a value that is given, and a write has any
abbrev pub FitsAccess : Bool → Gives → BusAccess → Type 0
FitsAccess true gives access = ⊤
FitsAccess false gives access = IsGiven gives access.address access.width access.value

-- one act fits what is given
abbrev pub FitsOne : Gives → Act → Type 0
FitsOne gives (sets preset) = ⊤
FitsOne gives (does access) = FitsAccess access.write gives access

-- each of these acts fits what is given after those before it
abbrev pub Fits : Gives → List Act → Type 0
Fits gives [] = ⊤
Fits gives (act ∷ acts) = FitsOne gives act × Fits (kept_by gives act) acts
