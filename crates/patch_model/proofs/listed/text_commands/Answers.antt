use Rattle.std.proofs.Common.{ap, map, ◌++◌, ◌∙◌}
use Rattle.yaml_block.specs.Nodes.{item_under, node_tree}
use Rattle.yaml_block.specs.Trees.{Tree, items_of}
use Rattle.patch_model.specs.Acts.{Deed, GrowsBy, deed_of, order_of}
use Rattle.patch_form.specs.Unmet.{AllMet}
use Rattle.patch_model.specs.Held.{texts_demands}
use Rattle.patch_model.specs.Orders.{item_orders, order, text_deed, texts_orders}
use Rattle.patch_form.proofs.Arms.{in_empty, in_scalar, in_any_map, in_list, out_scalar, out_list}
use Rattle.patch_model.proofs.Growing.{grown-none, on_ok}
use Rattle.patch_model.proofs.HeldParts.{scalar_met, list_met}
use Rattle.patch_model.proofs.listed.text_commands.Goals as goal

pub text_act-requires : goal.text_act-requires
text_act-requires c = record { met = scalar_met c.args.word c.args.line c.in-Scalar.text (out_scalar (λ (tree : Tree). AllMet (texts_demands c.args.word c.args.line tree)) c.args.node.now c.in-Scalar.text c.in-Scalar.is c.requires.met) }

pub item_commands-requires : goal.item_commands-requires
item_commands-requires c = record {
  met = list_met c.args.word c.args.line (items_of (map item_under c.as_slice.result.now))
      (out_list (λ (tree : Tree). AllMet (texts_demands c.args.word c.args.line tree)) c.args.node.now c.in-List.items c.as_slice.result.now c.in-List.is c.as_slice.ensures.value c.requires.met);
}

pub returns-in-Empty : goal.returns-in-Empty
returns-in-Empty c =
    in_empty (λ (tree : Tree). GrowsBy c.args.made.now c.args.made.now (texts_orders (text_deed c.args.word) c.args.parents.now c.args.line tree)) c.args.node.now c.in-Empty.is (grown-none c.args.made.now)

pub returns-in-Map : goal.returns-in-Map
returns-in-Map c =
    in_any_map (λ (tree : Tree). GrowsBy c.args.made.now c.args.made.now (texts_orders (text_deed c.args.word) c.args.parents.now c.args.line tree)) c.args.node.now c.in-Map.field-0 c.in-Map.is (grown-none c.args.made.now)

pub returns-in_ok-act-in-Scalar : goal.returns-in_ok-act-in-Scalar
returns-in_ok-act-in-Scalar c =
    let line = c.args.line in
    let parents = c.args.parents.now in
    let deed = text_deed c.args.word in
    on_ok (GrowsBy c.args.made.now c.put.new.made (order line parents (deed_of c.in_ok-act-in-Scalar.act))) (GrowsBy c.args.made.now c.put.new.made (texts_orders deed parents line (node_tree c.args.node.now))) c.put.result
    (λ grows. in_scalar (λ (tree : Tree). GrowsBy c.args.made.now c.put.new.made (texts_orders deed parents line tree)) c.args.node.now c.in-Scalar.text c.in-Scalar.is
    (grows ∙ ap (λ (done : Deed). map order_of c.args.made.now ++ order line parents done) c.in_ok-act-in-Scalar.ensures))
    c.put.ensures

pub returns-in-List : goal.returns-in-List
returns-in-List c =
    let deed = text_deed c.args.word in
    on_ok (GrowsBy c.args.made.now c.item_commands.new.made (item_orders deed c.args.parents.now (items_of (map item_under c.as_slice.result.now)))) (GrowsBy c.args.made.now c.item_commands.new.made (texts_orders deed c.args.parents.now c.args.line (node_tree c.args.node.now))) c.item_commands.result
    (λ grows. in_list (λ (tree : Tree). GrowsBy c.args.made.now c.item_commands.new.made (texts_orders deed c.args.parents.now c.args.line tree)) c.args.node.now c.in-List.items c.as_slice.result.now c.in-List.is c.as_slice.ensures.value grows)
    c.item_commands.ensures
