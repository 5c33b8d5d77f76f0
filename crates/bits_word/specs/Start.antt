-- The word from which a write starts, bit by bit (this project's own rule, after svd2rust's documented API).
use Rattle.std.specs.Prelude.{◌≡◌, ℕ, ◌<◌, ◌==◌, if◌then◌else◌}
use Rattle.std.specs.Int.{bit_at}

-- a bit is 1 where `zero` has it (it is raised), else 0 where `one` has it, else as it is
abbrev pub start_bit : ℕ → ℕ → ℕ → ℕ
start_bit raised one bit = if raised == 1 then 1 else (if one == 1 then 0 else bit)

unfoldable pub IsStart : ℕ → ℕ → ℕ → ℕ → ℕ → Type 0
IsStart bits word one raised start = (i : ℕ) → i < bits → bit_at start i ≡ start_bit (bit_at raised i) (bit_at one i) (bit_at word i)
