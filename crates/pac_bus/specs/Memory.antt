-- The bytes behind a bus, and the values that they hold, little end first. This project's own rule.
use Rattle.std.specs.Prelude.{ℕ, zero, suc, ◌+◌, ◌-◌, ◌*◌, ◌/◌, ◌%◌, ◌^◌, nat_le, nat_lt, ◌&&◌, if◌then◌else◌}

-- A byte for each address. An address that was never set has 0.
abbrev pub Memory : Type 0
Memory = ℕ → ℕ

-- the memory at first
abbrev pub zeros : Memory
zeros address = 0

-- the value of `count` bytes from the address on, the byte of the least place first
abbrev pub value_at : Memory → ℕ → ℕ → ℕ
value_at memory address zero = 0
value_at memory address (suc count) = memory address + 256 * value_at memory (address + 1) count

-- `count` bytes from the address on are those of the value, the byte of the least place first; all others stay
abbrev pub with_value : Memory → ℕ → ℕ → ℕ → Memory
with_value memory address count value other = if nat_le address other && nat_lt other (address + count) then value / 256 ^ (other - address) % 256 else memory other
