-- The values before the index are made.
use Rattle.std.proofs.Common.{◌≡◌, ℕ, Some, map, take}
use Rattle.std.specs.List.{AllByRecursion}
use Rattle.derive_build.specs.Tables.{IsKid, named}
use Rattle.svd_model.specs.Steps.{set}
use Rattle.svd_model.specs.Trees.{value_tree}
use Rattle.derive_build.proofs.value.values_of.Given as goal

abbrev pub invariant-loop-number : goal.invariant-loop-number
invariant-loop-number l = (levels : ℕ) → AllByRecursion (IsKid l.table levels (Some set)) l.numbers → map value_tree l.made.items ≡ map (named l.table levels) (take l.number-index l.numbers)
