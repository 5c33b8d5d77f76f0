use Rattle.std.proofs.Common.{◌≡◌, ◌++◌, map, flat_map}
use Rattle.svd_keys.proofs.Loops.{left}
use Rattle.svd_text.specs.Views.{element_of}
use Rattle.svd_model.specs.Trees.{value_tree}
use Rattle.svd_reader.specs.DescribedTree.{value_at}
use Rattle.svd_reader.proofs.values.variants.Given as goal

abbrev pub invariant-loop-child : goal.invariant-loop-child
invariant-loop-child l = map value_tree l.made.items ++ flat_map value_at (left l.children l.child-index) ≡ flat_map value_at (map element_of l.children)
