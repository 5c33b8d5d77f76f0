-- The first clash of the children that are left is the first of all.
use Rattle.std.proofs.Common.{◌≡◌, [], map, drop}
use Rattle.overlap_check.specs.Meetings.{first_clash}
use Rattle.svd_model.specs.Trees.{item_under}
use Rattle.svd_rows.specs.Forest.{siblings}
use Rattle.overlap_check.proofs.clash.+walk.Given as goal

abbrev pub invariant-clash_in_items-loop-item : goal.invariant-clash_in_items-loop-item
invariant-clash_in_items-loop-item l = first_clash [] (siblings (map item_under l.items)) ≡ first_clash l.seen.entries (siblings (map item_under (drop l.item-index l.items)))
