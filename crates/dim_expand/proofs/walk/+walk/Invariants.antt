-- The first of the children that are left is the first of all.
use Rattle.std.proofs.Common.{◌≡◌, map, drop}
use Rattle.dim_expand.specs.Walks.{first_in}
use Rattle.svd_model.specs.Trees.{item_under}
use Rattle.svd_rows.specs.Forest.{siblings}
use Rattle.dim_expand.proofs.walk.+walk.Given as goal

abbrev pub invariant-first_in_items-loop-item : goal.invariant-first_in_items-loop-item
invariant-first_in_items-loop-item l = first_in (siblings (map item_under l.items)) ≡ first_in (siblings (map item_under (drop l.item-index l.items)))
