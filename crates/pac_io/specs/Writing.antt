-- What a write to a sink answers, case by case.
use Rattle.std.specs.Prelude.{ℕ, ◌≡◌, List, Option, Result, Ok, Err}
use Rattle.std.specs.Io.KnownBytes.{Appends}
use Rattle.pac_io.specs.declared.fault.SinkFault.{SinkFault}
use Rattle.pac_io.specs.declared.fault.SinkFault.TheVariants.{Failed, Memory}
use Rattle.pac_io.specs.Rose.{Rose}
use Rattle.pac_io.specs.WrittenUpTo.{WrittenUpTo}

-- What a sink tells grew by some first bytes of these, maybe none, maybe all.
pub record AppendsPrefix (old now : Option (List ℕ)) (bytes : List ℕ) : Type 0 where
  pub left : List ℕ
  pub so_far : WrittenUpTo old now bytes left

-- Ok appended all of these bytes to what the sink tells; a fault appended some first bytes of them. This project's own rule.
abbrev pub Writes : {T : Type 0} → Result T SinkFault → Option (List ℕ) → Option (List ℕ) → List ℕ → Type 0
Writes (Ok value) old now bytes = Appends old now bytes
Writes (Err fault) old now bytes = AppendsPrefix old now bytes

-- Ok appended all but `rest` of these bytes, and `rest` is held back, as by a page; a fault appended some first bytes of them.
abbrev pub WritesUpTo : {T : Type 0} → Result T SinkFault → Option (List ℕ) → Option (List ℕ) → List ℕ → List ℕ → Type 0
WritesUpTo (Ok value) old now bytes rest = WrittenUpTo old now bytes rest
WritesUpTo (Err fault) old now bytes rest = AppendsPrefix old now bytes

-- what a fault says of the count of faults, before and now
abbrev pub FaultCause : SinkFault → ℕ → ℕ → Type 0
FaultCause Failed before now = Rose before now
FaultCause Memory before now = now ≡ before

-- `Failed` comes only where the count of faults rose, and each other answer leaves the count as it was.
abbrev pub SinkCause : {T : Type 0} → Result T SinkFault → ℕ → ℕ → Type 0
SinkCause (Ok value) before now = now ≡ before
SinkCause (Err fault) before now = FaultCause fault before now
