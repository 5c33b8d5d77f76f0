-- What is taken out, and what is left, come to all.
use Rattle.std.specs.Vec.Iter.{into_iter_items}
use Rattle.std.proofs.Common.{◌≡◌, ◌++◌, map}
use Rattle.svd_model.specs.Trees.{child_tree, item_under}
use Rattle.patch_arrays.specs.Members.{under_key}
use Rattle.patch_arrays.proofs.shelf.children_of.Given as goal

abbrev pub invariant-loop-item : goal.invariant-loop-item
invariant-loop-item l = map (under_key child_tree) l.entries.items ++ map item_under (into_iter_items l.item-iterator) ≡ map item_under l.fn.items.items
