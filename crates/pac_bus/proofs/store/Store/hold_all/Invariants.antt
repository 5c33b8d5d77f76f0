-- The bytes stay, and there is room for all of these.
use Rattle.std.proofs.Common.{◌≡◌, ◌≤◌, ◌+◌}
use Rattle.pac_bus.specs.Stores.{memory_of, room_of}
use Rattle.pac_bus.proofs.store.Store.hold_all.Given as goal

abbrev pub invariant-loop-at : goal.invariant-loop-at
invariant-loop-at l = (memory_of l.self ≡ memory_of l.fn.self) × (room_of l.fn.self + l.bytes ≤ room_of l.self)
