-- One child more.
use Rattle.std.proofs.Common.{◌++◌, map, ap, ◌∙◌}
use Rattle.std.specs.Vec.Iter.{into_iter_items}
use Rattle.patch_arrays.proofs.Refilled.{seen-more}
use Rattle.patch_arrays.specs.Members.{under_key}
use Rattle.svd_model.proofs.Trees.{item_under-roll}
use Rattle.svd_model.specs.declared.device.Item.{roll-Item}
use Rattle.svd_model.specs.Trees.{child_tree, item_under}
use Rattle.patch_arrays.proofs.shelf.items_of.Goals as goal

pub loop-key-preserved : goal.loop-key-preserved
loop-key-preserved c =
    ap (λ items. map item_under items ++ map (under_key child_tree) (into_iter_items c.next.new.self)) c.in_ok-push.ensures.items
    ∙ seen-more item_under (under_key child_tree) c.loop-key.items.items (into_iter_items c.loop-key.key-iterator) (into_iter_items c.next.new.self) (roll-Item (record { key = c.in-Some.key; child = c.in-Some.child })) (c.in-Some.key, c.in-Some.child) (map (under_key child_tree) c.args.children.items) c.in-Some.ensures.steps.0 (item_under-roll (record { key = c.in-Some.key; child = c.in-Some.child })) c.loop-key.invariant
