-- The sets before the index are made.
use Rattle.std.proofs.Common.{◌≡◌, ℕ, Some, map, take}
use Rattle.std.specs.List.{AllByRecursion}
use Rattle.derive_build.specs.Tables.{IsKid, named}
use Rattle.svd_model.specs.Steps.{field}
use Rattle.svd_model.specs.Trees.{set_tree}
use Rattle.derive_build.proofs.value.sets_of.Given as goal

abbrev pub invariant-loop-number : goal.invariant-loop-number
invariant-loop-number l = (levels : ℕ) → AllByRecursion (IsKid l.table levels (Some field)) l.numbers → map set_tree l.made.items ≡ map (named l.table levels) (take l.number-index l.numbers)
