-- What is counted so far and what is left are the whole, and where those that are left are typed all are.
use Rattle.std.proofs.Common.{map, drop}
use Rattle.dim_expand.proofs.Counting.{CountedUpTo}
use Rattle.svd_model.specs.Trees.{item_under}
use Rattle.dim_expand.proofs.count.+count.Given as goal

abbrev pub invariant-items_count-loop-item : goal.invariant-items_count-loop-item
invariant-items_count-loop-item l = CountedUpTo l.counted (map item_under l.items) l.total (map item_under (drop l.item-index l.items))
