-- The items that were passed are under the name, where the pattern matches them.
use Rattle.std.proofs.Common.{Some}
use Rattle.patch_changes.specs.Listed.{under_new}
use Rattle.patch_names.proofs.PassedItems.{PassedBy}
use Rattle.svd_model.specs.Trees.{item_under}
use Rattle.patch_changes.proofs.items.put_under.Given as goal

abbrev pub invariant-loop-index : goal.invariant-loop-index
invariant-loop-index l = PassedBy item_under (λ item. under_new l.pattern (Some l.name) (item_under item)) l.fn.items.items l.items.items l.index
