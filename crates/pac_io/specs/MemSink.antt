-- A sink in memory: the bytes written, and the calls that are to fail.
use Rattle.std.specs.Prelude.{ℕ, ◌≡◌, List, [], ◌∷◌, ◌++◌, Result, Ok, Err, ⊤, Bool, true, false}
use Rattle.pac_io.specs.declared.mem_sink.MemSink.{MemSink}
use Rattle.pac_io.specs.declared.fault.SinkFault.{SinkFault}
use Rattle.pac_io.specs.declared.fault.SinkFault.TheVariants.{Failed, Memory}
use Rattle.pac_io.specs.Calls.{listed, next_number, IsFresh, SameCalls}

-- the bytes written so far
abbrev pub bytes_written : MemSink → List ℕ
bytes_written held = held.bytes.items

-- which faults agree with it that the write is listed to fail
abbrev pub FaultWhere : Bool → SinkFault → Type 0
FaultWhere fails Failed = fails ≡ true
FaultWhere fails Memory = ⊤

-- `Failed` comes exactly where the call is listed, but for want of memory.
abbrev pub FailsWhere : {T : Type 0} → Bool → Result T SinkFault → Type 0
FailsWhere fails (Ok value) = fails ≡ false
FailsWhere fails (Err fault) = FaultWhere fails fault

-- nothing written, and no call made or listed
pub record HoldsNothing (held : MemSink) : Type 0 where
  pub none_written : bytes_written held ≡ []
  pub fresh : IsFresh held.calls

-- all stays as it was
pub record SameSink (old new : MemSink) : Type 0 where
  pub same_written : bytes_written new ≡ bytes_written old
  pub same_calls : SameCalls old.calls new.calls

-- one more call is listed to fail, and nothing else changes
pub record ListsCall (old new : MemSink) (call : ℕ) : Type 0 where
  pub one_more : listed new.calls ≡ listed old.calls ++ call ∷ []
  pub same_made : new.calls.made ≡ old.calls.made
  pub same_faults : new.calls.faults ≡ old.calls.faults
  pub same_written : bytes_written new ≡ bytes_written old

-- a write counts as one call, whatever it answers, and leaves the list of calls
pub record CountsCall (old new : MemSink) : Type 0 where
  pub one_more : new.calls.made ≡ next_number old.calls.made
  pub same_listed : listed new.calls ≡ listed old.calls
