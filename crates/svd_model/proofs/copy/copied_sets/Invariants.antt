-- The sets before the index are copied.
use Rattle.std.proofs.Common.{◌≡◌, take, map}
use Rattle.svd_model.specs.Trees.{set_tree}
use Rattle.svd_model.proofs.copy.copied_sets.Given as goal

abbrev pub invariant-loop-set : goal.invariant-loop-set
invariant-loop-set l = map set_tree l.made.items ≡ map set_tree (take l.set-index l.sets)
