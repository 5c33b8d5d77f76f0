use Rattle.std.proofs.Common.{Some, map}
use Rattle.patch_sem.specs.Selecting.{selects}
use Rattle.patch_growth.proofs.Passed.{Passed}
use Rattle.patch_growth.specs.Growths.{grown_all}
use Rattle.svd_model.specs.Trees.{item_under}
use Rattle.patch_growth.proofs.walking.+walk.Given as goal

abbrev pub invariant-each_item-loop-index : goal.invariant-each_item-loop-index
invariant-each_item-loop-index g l =
    goal.unvisited-each_item-loop-index g l ×
    Passed (selects l.first) (λ kind. grown_all (g.M.Maker.growth l.maker) (map selects l.rest) (Some kind)) item_under l.fn.total l.fn.items.items l.total l.items.items l.index
