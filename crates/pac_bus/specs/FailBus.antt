-- A bus of which every read answers 0, and listed accesses fail.
use Rattle.std.specs.Prelude.{ℕ, ◌≡◌, ◌==◌, Bool, List, [], ◌∷◌, ◌++◌}
use Rattle.std.specs.List.{list_any}
use Rattle.pac_io.specs.Calls.{next_number}
use Rattle.pac_bus.specs.declared.fail_bus.FailBus.{FailBus}
use Rattle.pac_bus.specs.Acts.Gives.{Zeros}
use Rattle.pac_bus.specs.Journals.{told_by}
use Rattle.pac_bus.specs.Telling.{BusTold, HoldsNothing as TellsNothing}

-- what it tells
abbrev pub fail_told : FailBus → BusTold
fail_told bus = told_by bus.journal Zeros bus.faults

-- the numbers of the accesses that are to fail
abbrev pub listed : FailBus → List ℕ
listed bus = bus.listed.items

-- The next access is listed to fail. Accesses are numbered from 1, failed ones included, and the number stays at 2^64 - 1.
abbrev pub fails_next : FailBus → Bool
fails_next bus = list_any (λ number. number == next_number bus.made) (listed bus)

-- nothing told, and no access made or listed
pub record HoldsNothing (bus : FailBus) : Type 0 where
  pub tells_nothing : TellsNothing (fail_told bus)
  pub none_made : bus.made ≡ 0
  pub none_listed : listed bus ≡ []

-- all stays as it was
pub record SameBus (old new : FailBus) : Type 0 where
  pub same_told : fail_told new ≡ fail_told old
  pub same_made : new.made ≡ old.made
  pub same_listed : listed new ≡ listed old

-- one more access is listed to fail, and nothing else changes
pub record ListsAccess (old new : FailBus) (access : ℕ) : Type 0 where
  pub same_told : fail_told new ≡ fail_told old
  pub same_made : new.made ≡ old.made
  pub one_more : listed new ≡ listed old ++ access ∷ []

-- a read or write counts as one access, whatever it answers, and leaves the list of accesses
pub record CountsAccess (old new : FailBus) : Type 0 where
  pub one_more : new.made ≡ next_number old.made
  pub same_listed : listed new ≡ listed old
