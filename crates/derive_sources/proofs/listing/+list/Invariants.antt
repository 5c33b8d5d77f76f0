-- What is listed, and what is left, is all.
use Rattle.std.proofs.Common.{◌≡◌, map, drop}
use Rattle.derive_sources.specs.Entries.{with_rest}
use Rattle.svd_model.specs.Trees.{item_under}
use Rattle.svd_rows.specs.Forest.{siblings}
use Rattle.derive_sources.proofs.listing.+list.Given as goal

abbrev pub invariant-add_items-loop-item : goal.invariant-add_items-loop-item
invariant-add_items-loop-item l = with_rest l.entries.items l.parent (siblings (map item_under (drop l.item-index l.items))) ≡ with_rest l.fn.entries.items l.parent (siblings (map item_under l.items))
