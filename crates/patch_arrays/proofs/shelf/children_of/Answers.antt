-- One item more.
use Rattle.std.proofs.Common.{◌++◌, map, sym, ap, ◌∙◌}
use Rattle.std.specs.Vec.Iter.{into_iter_items}
use Rattle.patch_arrays.proofs.Refilled.{seen-more}
use Rattle.patch_arrays.specs.Members.{under_key}
use Rattle.svd_model.proofs.Trees.{item_under-is}
use Rattle.svd_model.specs.Trees.{child_tree, item_under}
use Rattle.patch_arrays.proofs.shelf.children_of.Goals as goal

pub loop-item-preserved : goal.loop-item-preserved
loop-item-preserved c =
    ap (λ entries. map (under_key child_tree) entries ++ map item_under (into_iter_items c.next.new.self)) c.in_ok-push.ensures.items
    ∙ seen-more (under_key child_tree) item_under c.loop-item.entries.items (into_iter_items c.loop-item.item-iterator) (into_iter_items c.next.new.self) (c.in-Some.item.key, c.in-Some.item.child) c.in-Some.item (map item_under c.args.items.now.items) c.in-Some.ensures.steps.0 (sym (item_under-is c.in-Some.item)) c.loop-item.invariant
