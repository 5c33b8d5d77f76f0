-- The fields before the index are made.
use Rattle.std.proofs.Common.{◌≡◌, ℕ, Some, map, take}
use Rattle.std.specs.List.{AllByRecursion, IsDistinct}
use Rattle.derive_build.specs.Tables.{IsKid, steps_in, under}
use Rattle.svd_model.specs.Steps.{register, same_key}
use Rattle.svd_model.specs.Trees.{field_under}
use Rattle.derive_build.proofs.field.fields_of.Given as goal

abbrev pub invariant-loop-number : goal.invariant-loop-number
invariant-loop-number l = (levels : ℕ) → AllByRecursion (IsKid l.table levels (Some register)) l.numbers → IsDistinct same_key (steps_in l.table l.numbers) → map field_under l.made.entries ≡ map (under l.table levels) (take l.number-index l.numbers)
