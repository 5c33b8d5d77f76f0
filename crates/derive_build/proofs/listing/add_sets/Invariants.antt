-- What is listed, and what is left, is all.
use Rattle.std.proofs.Common.{◌≡◌, map, drop}
use Rattle.derive_build.specs.Nodes.{with_rest}
use Rattle.svd_model.specs.Steps.{set}
use Rattle.svd_model.specs.Trees.{set_tree, numbered}
use Rattle.derive_build.proofs.listing.add_sets.Given as goal

abbrev pub invariant-loop-values : goal.invariant-loop-values
invariant-loop-values l = with_rest l.owns.items (numbered set l.values-index (map set_tree (drop l.values-index l.sets))) ≡ with_rest l.fn.owns.items (numbered set 0 (map set_tree l.sets))
