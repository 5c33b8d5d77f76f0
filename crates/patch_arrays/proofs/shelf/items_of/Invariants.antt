-- What is made, and what is left, come to all.
use Rattle.std.specs.Vec.Iter.{into_iter_items}
use Rattle.std.proofs.Common.{◌≡◌, ◌++◌, map}
use Rattle.svd_model.specs.Trees.{child_tree, item_under}
use Rattle.patch_arrays.specs.Members.{under_key}
use Rattle.patch_arrays.proofs.shelf.items_of.Given as goal

abbrev pub invariant-loop-key : goal.invariant-loop-key
invariant-loop-key l = map item_under l.items.items ++ map (under_key child_tree) (into_iter_items l.key-iterator) ≡ map (under_key child_tree) l.fn.children.items
