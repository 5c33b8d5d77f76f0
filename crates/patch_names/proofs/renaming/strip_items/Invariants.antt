-- The items that were passed are under their names without the prefix.
use Rattle.patch_names.proofs.PassedItems.{PassedBy}
use Rattle.patch_names.specs.Renaming.{stripped_element}
use Rattle.svd_model.specs.Trees.{item_under}
use Rattle.patch_names.proofs.renaming.strip_items.Given as goal

abbrev pub invariant-loop-index : goal.invariant-loop-index
invariant-loop-index l = PassedBy item_under (λ item. stripped_element l.prefix (item_under item)) l.fn.items.items l.items.items l.index
