-- The groups before this place stand behind those that stood there; what is made and what is left come to the whole.
use Rattle.std.proofs.Common.{map, drop}
use Rattle.dim_expand.specs.Narrow.{AreNarrow, IsNarrow, IsNarrowForest}
use Rattle.dim_expand.specs.Tallies.{Pushes}
use Rattle.dim_expand.specs.Walks.{capped, groups_at}
use Rattle.dim_expand.proofs.Groups.{groups_up_to}
use Rattle.dim_expand.proofs.Growing.{Growing}
use Rattle.svd_model.specs.Trees.{child_tree, item_under}
use Rattle.svd_rows.specs.Forest.{siblings}
use Rattle.dim_expand.proofs.item.+unfold.Given as goal

abbrev pub invariant-push_items-loop-place : goal.invariant-push_items-loop-place
invariant-push_items-loop-place l =
    IsNarrow (child_tree l.item.child) → Pushes l.initial.tally.counts.entries (map item_under l.initial.made.items) (groups_at capped (item_under l.item) (groups_up_to l.count l.place)) l.tally.counts.entries (map item_under l.made.items)

abbrev pub invariant-unfolded_items-loop-item : goal.invariant-unfolded_items-loop-item
invariant-unfolded_items-loop-item l =
    IsNarrowForest (siblings (map item_under l.items)) → Growing (map item_under l.items) l.tally.counts.entries (map item_under l.made.items) (map item_under (drop l.item-index l.items)) × AreNarrow (siblings (map item_under (drop l.item-index l.items)))
