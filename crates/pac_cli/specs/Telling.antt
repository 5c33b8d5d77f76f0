-- What became of the line that tells of a fault. This project's own rule.
use Rattle.std.specs.Prelude.{ℕ, ◌≡◌, List, Option, Some, None}
use Rattle.std.specs.Io.KnownBytes.{Appends}
use Rattle.pac_io.specs.Rose.{Rose}
use Rattle.pac_io.specs.Writing.{AppendsPrefix}
use Rattle.pac_fault.specs.FaultTexts.{fault_line}
use Rattle.pac_fault.specs.declared.fault.PacFault.{PacFault}
use Rattle.pac_cli.specs.Worlds.{Paper}
use Rattle.pac_cli.specs.declared.outcome.Told.{Told}
use Rattle.pac_cli.specs.declared.outcome.Told.TheVariants.{Whole, Failed, Memory}

-- the line went out whole
pub record TellsWhole (line : List ℕ) (old new : Paper) : Type 0 where
  pub text : Appends old.written new.written line
  pub count : new.faults ≡ old.faults

-- a write failed behind a first part of the line
pub record FailsToTell (line : List ℕ) (old new : Paper) : Type 0 where
  pub text : AppendsPrefix old.written new.written line
  pub rose : Rose old.faults new.faults

-- memory was wanting behind a first part of the line
pub record LacksMemoryToTell (line : List ℕ) (old new : Paper) : Type 0 where
  pub text : AppendsPrefix old.written new.written line
  pub count : new.faults ≡ old.faults

abbrev pub TellsLine : Told → List ℕ → Paper → Paper → Type 0
TellsLine Whole line old new = TellsWhole line old new
TellsLine Failed line old new = FailsToTell line old new
TellsLine Memory line old new = LacksMemoryToTell line old new

-- there was nothing to tell
pub record TellsNothing (told : Told) (old new : Paper) : Type 0 where
  pub whole : told ≡ Whole
  pub text : new.written ≡ old.written
  pub count : new.faults ≡ old.faults

-- without a fault nothing is told, and each fault has its line
abbrev pub Tells : Option PacFault → Told → Paper → Paper → Type 0
Tells None told old new = TellsNothing told old new
Tells (Some fault) told old new = TellsLine told (fault_line fault) old new
