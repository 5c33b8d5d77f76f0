-- Which registers stand in which peripheral of a sample: 64 in each but maybe the last, in rising order. This project's own rule.
use Rattle.std.specs.Prelude.{ℕ, ◌-◌, ◌/◌, ◌==◌, List}
use Rattle.std.specs.Int.{div_ceil}
use Rattle.std.specs.List.{filter, range_with_len}

-- the numbers from the first on that are below the end
abbrev pub between : ℕ → ℕ → List ℕ
between first end = range_with_len first (end - first)

-- the peripherals of so many registers
abbrev pub peripherals_of : ℕ → List ℕ
peripherals_of count = between 0 (div_ceil count 64)

-- of so many registers those of peripheral p: each register j for which p is j divided by 64
abbrev pub registers_of : ℕ → ℕ → List ℕ
registers_of count p = filter (λ j. j / 64 == p) (between 0 count)
