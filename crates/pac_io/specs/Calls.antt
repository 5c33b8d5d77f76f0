-- The calls of an object in memory: which of them are to fail, how many were made, and how many failed.
use Rattle.std.specs.Prelude.{ℕ, ◌≡◌, ◌+◌, ◌-◌, ◌^◌, ◌==◌, min, List, [], Bool}
use Rattle.std.specs.List.{list_any}
use Rattle.pac_io.specs.declared.calls.Calls.{Calls}

-- the numbers of the calls that are to fail
abbrev pub listed : Calls → List ℕ
listed calls = calls.listed.items

-- The number of the call after `made` calls. Calls are numbered from 1, and the number stays at 2^64 - 1.
abbrev pub next_number : ℕ → ℕ
next_number made = min (made + 1) (2 ^ 64 - 1)

-- the next call is listed to fail
abbrev pub fails_next : Calls → Bool
fails_next calls = list_any (λ number. number == next_number calls.made) (listed calls)

-- no call was made, none failed, and none is to fail
pub record IsFresh (calls : Calls) : Type 0 where
  pub none_listed : listed calls ≡ []
  pub none_made : calls.made ≡ 0
  pub none_failed : calls.faults ≡ 0

-- all stays as it was
pub record SameCalls (old new : Calls) : Type 0 where
  pub same_listed : listed new ≡ listed old
  pub same_made : new.made ≡ old.made
  pub same_faults : new.faults ≡ old.faults
