-- The bytes so far, and then those of the rest of the value, are those of the value.
use Rattle.std.proofs.Common.{◌≡◌, ◌≤◌, ◌+◌, ◌-◌}
use Rattle.pac_bus.specs.Memory.{with_value}
use Rattle.pac_bus.specs.Stores.{memory_of, room_of}
use Rattle.pac_bus.proofs.store.Store.put_value.Given as goal

abbrev pub invariant-loop-at : goal.invariant-loop-at
invariant-loop-at l = (l.at ≤ l.bytes) × (room_of l.fn.self ≤ room_of l.self + l.at) × (with_value (memory_of l.self) (l.address + l.at) (l.bytes - l.at) l.rest ≡ with_value (memory_of l.fn.self) l.address l.bytes l.value)
