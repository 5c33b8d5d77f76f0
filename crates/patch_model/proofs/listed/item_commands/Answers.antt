use Rattle.std.proofs.Common.{◌+◌, ◌++◌, drop, map, subst, arith}
use Rattle.yaml_block.specs.Nodes.{item_under, node_tree}
use Rattle.yaml_block.specs.Trees.{items_of}
use Rattle.patch_model.specs.Acts.{order_of}
use Rattle.patch_form.specs.Unmet.{AllMet}
use Rattle.patch_model.specs.Held.{item_demands}
use Rattle.patch_model.specs.Orders.{item_orders, text_deed, text_order}
use Rattle.patch_form.proofs.FromPlace.{items_from, items-done, items-here, made-more, made-done}
use Rattle.patch_model.proofs.HeldParts.{items_met}
use Rattle.patch_model.proofs.listed.item_commands.Goals as goal

pub text_command-requires : goal.text_command-requires
text_command-requires c =
    let items = c.args.items.now in
    let i = c.loop-item.item-index in
    let here = c.item-item.result in
    record {
      met = (items_met c.args.word here.0 (node_tree here.1) (items_of (map item_under (drop (i + 1) items)))
          (subst AllMet (items-here (item_demands c.args.word) items i here c.loop-item-test.true c.item-item.is) c.loop-item.invariant.met)).0;
    }

pub loop-item-preserved : goal.loop-item-preserved
loop-item-preserved c =
    let items = c.args.items.now in
    let i = c.loop-item.item-index in
    let here = c.item-item.result in
    let tree = node_tree here.1 in
    let ask = item_orders (text_deed c.args.word) c.args.parents.now in
    record {
      orders = made-more (map order_of c.loop-item.made) (map order_of c.text_command.new.made) (text_order (text_deed c.args.word) c.args.parents.now here.0 tree) (items_from ask items i) (items_from ask items (i + 1))
          (map order_of c.args.made.now ++ items_from ask items 0)
          c.in_ok-text_command.ensures (items-here ask items i here c.loop-item-test.true c.item-item.is) c.loop-item.invariant.orders;
      met = (items_met c.args.word here.0 tree (items_of (map item_under (drop (i + 1) items)))
          (subst AllMet (items-here (item_demands c.args.word) items i here c.loop-item-test.true c.item-item.is) c.loop-item.invariant.met)).1;
    }

pub returns : goal.returns
returns c =
    let ask = item_orders (text_deed c.args.word) c.args.parents.now in
    made-done (map order_of c.loop-item.made) (items_from ask c.args.items.now c.loop-item.item-index) (map order_of c.args.made.now ++ items_from ask c.args.items.now 0)
    (items-done ask c.args.items.now c.loop-item.item-index (omega arith)) c.loop-item.invariant.orders
