-- The value is that of the bytes from here on.
use Rattle.std.proofs.Common.{◌≡◌, ◌≤◌, ◌<◌, ◌+◌, ◌-◌, ◌^◌}
use Rattle.pac_bus.specs.Memory.{value_at}
use Rattle.pac_bus.specs.Stores.{memory_of}
use Rattle.pac_bus.proofs.store.Store.value.Given as goal

abbrev pub invariant-loop-at : goal.invariant-loop-at
invariant-loop-at l = (l.at ≤ l.bytes) × (l.value ≡ value_at (memory_of l.self) (l.address + l.at) (l.bytes - l.at)) × (l.value < 256 ^ (l.bytes - l.at))

abbrev pub decreases-loop-at : goal.decreases-loop-at
decreases-loop-at l = l.at
