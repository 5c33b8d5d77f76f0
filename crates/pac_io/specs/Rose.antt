-- Whether the count of faults of an object rose in a call.
use Rattle.std.specs.Prelude.{ℕ, ◌≤◌, ◌+◌, ◌-◌, ◌^◌, min}

-- The count rose: it is greater than before, or it stands at 2^64 - 1, where each counter stays. It never falls. This project's own rule: a fault of the outside may be answered only where the object that was handed in owns up to it.
pub record Rose (before now : ℕ) : Type 0 where
  pub never_falls : before ≤ now
  pub counted : min (before + 1) (2 ^ 64 - 1) ≤ now
