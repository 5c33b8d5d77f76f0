-- Bytes that are kept at addresses.
use Rattle.std.specs.Prelude.{ℕ, ◌-◌, ◌==◌, if◌then◌else◌, List, [], ◌∷◌}
use Rattle.std.specs.BTreeMap as tree
use Rattle.std.specs.Option.{unwrap_or}
use Rattle.std.specs.Ordering.{nat_cmp}
use Rattle.std.specs.Vec.{vec_capacity, vec_len}
use Rattle.pac_bus.specs.declared.store.Store.{Store}
use Rattle.pac_bus.specs.declared.written.Written.{Written}
use Rattle.pac_bus.specs.Memory.{Memory}

-- the byte that was written last at the address, or the one before all of them
abbrev pub latest : ℕ → List Written → ℕ → ℕ
latest byte [] address = byte
latest byte (entry ∷ entries) address = latest (if address == entry.address then entry.byte else byte) entries address

-- the bytes: those that are held, and else what was written last
abbrev pub memory_of : Store → Memory
memory_of store address = unwrap_or (tree.get nat_cmp store.held address) (latest 0 store.written.items address)

-- how many more bytes can be written without memory
abbrev pub room_of : Store → ℕ
room_of store = vec_capacity store.written - vec_len store.written

-- one byte is set
abbrev pub with_byte : Memory → ℕ → ℕ → Memory
with_byte memory address byte other = if other == address then byte else memory other
