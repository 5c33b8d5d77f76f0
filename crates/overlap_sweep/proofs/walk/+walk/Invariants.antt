-- What is made, and the members of the children that are left, are all members; and what is made is the members so far.
use Rattle.std.proofs.Common.{◌≡◌, ◌++◌, map, drop}
use Rattle.std.specs.List.{flat_map, range_with_len}
use Rattle.overlap_sweep.specs.Walk.{member_spots, spots_in}
use Rattle.reg_table.specs.Walk.{index_at}
use Rattle.svd_model.specs.Trees.{item_under}
use Rattle.svd_rows.specs.Forest.{siblings}
use Rattle.overlap_sweep.proofs.walk.+walk.Given as goal

abbrev pub invariant-push_items-loop-item : goal.invariant-push_items-loop-item
invariant-push_items-loop-item l = l.made ++ spots_in l.outer.way l.outer.start l.outer.props (siblings (map item_under (drop l.item-index l.items))) ≡ l.fn.made ++ spots_in l.outer.way l.outer.start l.outer.props (siblings (map item_under l.items))

abbrev pub invariant-push_item-loop-number : goal.invariant-push_item-loop-number
invariant-push_item-loop-number l = l.made ≡ l.fn.made ++ flat_map (λ number. member_spots l.outer.way l.outer.start l.outer.props (item_under l.item) (index_at l.count number)) (range_with_len 0 l.number)
