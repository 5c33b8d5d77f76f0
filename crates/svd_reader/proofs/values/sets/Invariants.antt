use Rattle.std.proofs.Common.{◌≡◌, ◌++◌, map, flat_map}
use Rattle.svd_keys.proofs.Loops.{left}
use Rattle.svd_text.specs.Views.{element_of}
use Rattle.svd_model.specs.Trees.{set_tree}
use Rattle.svd_reader.specs.DescribedTree.{set_at}
use Rattle.svd_reader.proofs.values.sets.Given as goal

abbrev pub invariant-loop-child : goal.invariant-loop-child
invariant-loop-child l = map set_tree l.made.items ++ flat_map set_at (left l.children l.child-index) ≡ flat_map set_at (map element_of l.children)
