-- The children before the index are copied.
use Rattle.std.proofs.Common.{◌≡◌, take, map}
use Rattle.svd_model.specs.Trees.{item_under}
use Rattle.svd_model.proofs.copy.+copy.Given as goal

abbrev pub invariant-copied_items-loop-item : goal.invariant-copied_items-loop-item
invariant-copied_items-loop-item l = map item_under l.made.items ≡ map item_under (take l.item-index l.items)
