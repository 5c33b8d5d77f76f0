-- What is listed, and what is left, is all.
use Rattle.std.proofs.Common.{◌≡◌, map, drop}
use Rattle.derive_build.specs.Nodes.{with_rest}
use Rattle.svd_model.specs.Trees.{item_under}
use Rattle.svd_rows.specs.Forest.{siblings}
use Rattle.derive_build.proofs.listing.+list.Given as goal

abbrev pub invariant-add_items-loop-item : goal.invariant-add_items-loop-item
invariant-add_items-loop-item l = with_rest l.owns.items (siblings (map item_under (drop l.item-index l.items))) ≡ with_rest l.fn.owns.items (siblings (map item_under l.items))
