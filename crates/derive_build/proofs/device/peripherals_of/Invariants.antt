-- The peripherals before the index are made.
use Rattle.std.proofs.Common.{◌≡◌, ◌+◌, None, map, take}
use Rattle.std.specs.List.{AllByRecursion, IsDistinct}
use Rattle.derive_build.specs.Tables.{IsKid, steps_in, under}
use Rattle.svd_model.specs.Steps.{same_key}
use Rattle.svd_model.specs.Trees.{peripheral_under}
use Rattle.derive_build.proofs.device.peripherals_of.Given as goal

abbrev pub invariant-loop-number : goal.invariant-loop-number
invariant-loop-number l = AllByRecursion (IsKid l.table (l.levels + 1) None) l.numbers → IsDistinct same_key (steps_in l.table l.numbers) → map peripheral_under l.made.entries ≡ map (under l.table (l.levels + 1)) (take l.number-index l.numbers)
