-- Why a description isn't derived, where its elements are told by their numbers.
use Rattle.std.specs.Prelude.{⊤, List, Some}
use Rattle.derive_order.specs.declared.fault.OrderFault.{OrderFault}
use Rattle.derive_order.specs.declared.fault.OrderFault.TheVariants.{Missing, Cycle, TooDeep, TooMany, Memory}
use Rattle.derive_sources.specs.Numbers.{Rows, path_at}
use Rattle.derived_rows.specs.Faults.{IsFault, missing_parent, derive_cycle, too_deep, too_many}
use Rattle.need_order.specs.declared.fault.NeedFault.{NeedFault}
use Rattle.need_order.specs.declared.fault.NeedFault.TheVariants as need_fault
use Rattle.pac_base.specs.declared.path.Step.{Step as Written}

-- what a fault says of a description
abbrev pub IsFaultAt : Rows → OrderFault → Type 0
IsFaultAt all (Missing number) = (names : List Written) × IsFault all (missing_parent (path_at all number) names)
IsFaultAt all (Cycle number) = IsFault all (derive_cycle (path_at all number))
IsFaultAt all (TooDeep number) = IsFault all (too_deep (path_at all number))
IsFaultAt all (TooMany count) = IsFault all (too_many count)
IsFaultAt all Memory = ⊤

-- what a circle of needs says of a description: the first that lies on one and derives is always told
abbrev pub TellsCycle : Rows → NeedFault → Type 0
TellsCycle all (need_fault.Circle (Some number)) = IsFault all (derive_cycle (path_at all number))
TellsCycle all (need_fault.Circle _) = ⊥
TellsCycle all need_fault.Memory = ⊤
