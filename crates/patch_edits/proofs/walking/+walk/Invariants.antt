use Rattle.std.proofs.Common.{map}
use Rattle.patch_sem.specs.Selecting.{selects}
use Rattle.patch_edits.proofs.Passed.{Passed}
use Rattle.patch_edits.specs.Edits.{Recounted, below_block}
use Rattle.patch_edits.specs.Visits.{visited}
use Rattle.svd_model.specs.Trees.{item_under}
use Rattle.std.proofs.Common.{Some}
use Rattle.patch_edits.proofs.walking.+walk.Given as goal

abbrev pub invariant-each_item-loop-index : goal.invariant-each_item-loop-index
invariant-each_item-loop-index g l =
    goal.unvisited-each_item-loop-index g l ×
    Passed (selects l.first) (λ kind. visited (g.E.Edit.edit l.edit) (map selects l.rest) (Some kind)) item_under l.fn.items.items l.items.items l.index ×
    Recounted l.fn.total (below_block l.fn.items.items) l.total (below_block l.items.items)
