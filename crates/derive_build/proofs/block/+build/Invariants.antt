-- The registers and clusters before the index are made; each is one level further down.
use Rattle.std.proofs.Common.{◌≡◌, ◌+◌, ◌*◌, Some, map, take}
use Rattle.std.specs.List.{AllByRecursion}
use Rattle.derive_build.specs.Tables.{IsKid, under}
use Rattle.svd_model.specs.Steps.{cluster}
use Rattle.svd_model.specs.Trees.{item_under}
use Rattle.derive_build.proofs.block.+build.Given as goal

abbrev pub decreases-items_of : goal.decreases-items_of
decreases-items_of l = 3 * l.levels + 2

abbrev pub decreases-add_item : goal.decreases-add_item
decreases-add_item l = 3 * l.levels + 1

abbrev pub decreases-item_of : goal.decreases-item_of
decreases-item_of l = 3 * l.levels + 3

abbrev pub invariant-items_of-loop-number : goal.invariant-items_of-loop-number
invariant-items_of-loop-number l = AllByRecursion (IsKid l.table l.levels (Some cluster)) l.numbers → map item_under l.made.items ≡ map (under l.table l.levels) (take l.number-index l.numbers)
