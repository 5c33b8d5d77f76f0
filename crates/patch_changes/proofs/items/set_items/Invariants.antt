-- The items that were passed have their keys.
use Rattle.patch_changes.specs.Listed.{keyed}
use Rattle.patch_names.proofs.PassedItems.{PassedBy}
use Rattle.svd_model.specs.Trees.{item_under}
use Rattle.patch_changes.proofs.items.set_items.Given as goal

abbrev pub invariant-loop-index : goal.invariant-loop-index
invariant-loop-index l = PassedBy item_under (λ item. keyed l.pattern l.keys (item_under item)) l.fn.items.items l.items.items l.index
