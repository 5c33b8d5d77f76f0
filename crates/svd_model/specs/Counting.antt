-- How a count is told in 64 bits: the exact number, or the greatest where that is greater (this project's own rule).
use Rattle.std.specs.Prelude.{ℕ, ◌-◌, ◌^◌, min}
use Rattle.svd_model.specs.Facts.{is_counted}
use Rattle.svd_model.specs.Keys.{Key}
use Rattle.svd_model.specs.Steps.{Step}
use Rattle.svd_rows.specs.Elements.{count}
use Rattle.svd_rows.specs.Forest.{Forest}

abbrev pub told_count : ℕ → ℕ
told_count n = min n (2 ^ 64 - 1)

-- the peripherals, clusters, registers, fields and enumerated values among these and below them
abbrev pub elements_in : Forest Step Key → ℕ
elements_in forest = count is_counted forest
