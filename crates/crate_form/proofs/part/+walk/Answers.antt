-- Each child and each module is that of its element.
use Rattle.std.proofs.Common.{◌∙◌, ◌++◌, ◌∷◌, [], ◌+◌, List, map, drop, subst, sym, ap, append-nil, append_assoc, IfOk}
use Rattle.std.specs.List.{list_all}
use Rattle.frag_tree.specs.Trees.{before, module_tree}
use Rattle.reg_table.proofs.Walks.{cluster-child, register-child}
use Rattle.svd_model.specs.declared.device.Cluster.{out-Cluster}
use Rattle.svd_model.specs.declared.device.Item.{Item}
use Rattle.svd_model.specs.declared.props.Props.{Props}
use Rattle.svd_model.specs.Trees.{item_under}
use Rattle.svd_model.proofs.Lists.{drop_past, from_place}
use Rattle.svd_rows.specs.Forest.{siblings}
use Rattle.crate_form.specs.Children.{children_of}
use Rattle.crate_form.specs.Elements.{StandsAlone, child_at}
use Rattle.crate_form.specs.Modules.{modules_of}
use Rattle.crate_form.specs.Parts.{AreParts, IsPart, units_of, valid_unit}
use Rattle.crate_form.proofs.Peripherals.{map_push}
use Rattle.crate_form.proofs.Units.{children-first, children-none, joined, joined_ended, joined_more, joined_none, modules-first, modules-none, valid_more}
use Rattle.crate_form.proofs.part.+walk.Goals as goal

-- ---- the elements

pub parts_of-loop-item-init : goal.parts_of-loop-item-init
parts_of-loop-item-init t c = record {
  children = ap (λ made. made ++ children_of c.args.outer.now (siblings (map item_under c.args.items.now))) c.new-children.ensures;
  units = ap (λ made. joined (units_of made) (modules_of c.args.outer.now (siblings (map item_under c.args.items.now)))) c.new-units.ensures.items ∙ joined_none (modules_of c.args.outer.now (siblings (map item_under c.args.items.now)));
  valid = ap (λ made. list_all valid_unit (units_of made)) c.new-units.ensures.items;
}

pub parts_of-loop-item-preserved : goal.parts_of-loop-item-preserved
parts_of-loop-item-preserved t c =
    let outer = c.args.outer.now in
    let item = c.item-item.result in
    let others = map item_under (drop (c.loop-item.item-index + 1) c.args.items.now) in
    let left = from_place c.args.items.now c.loop-item.item-index item c.loop-item-test.true c.item-item.is in
    let made = c.in_ok-made.ensures in
    let unit = c.in_ok-made.made.unit in
    record {
      children =
          ap (λ l. l ++ children_of outer (siblings others)) (c.in_ok-push.ensures.ok ∙ ap (λ x. c.loop-item.children ++ x ∷ []) made.child)
          ∙ (append_assoc c.loop-item.children (child_at outer (item_under item) ∷ []) (children_of outer (siblings others))
          ∙ (ap (λ l. c.loop-item.children ++ l) (sym (children-first outer (item_under item) others) ∙ sym (ap (λ l. children_of outer (siblings (map item_under l))) left))
          ∙ c.loop-item.invariant.children));
      units =
          ap (λ l. joined (units_of l) (modules_of outer (siblings others))) c.in_ok-push-2.ensures.items
          ∙ (ap (λ l. joined l (modules_of outer (siblings others))) (map_push module_tree c.loop-item.units.items unit)
          ∙ (joined_more (units_of c.loop-item.units.items) (module_tree unit) (modules_of outer (siblings others))
          ∙ (ap (joined (units_of c.loop-item.units.items))
          (ap (λ u. before u (modules_of outer (siblings others))) made.unit ∙ (sym (modules-first outer (item_under item) others) ∙ sym (ap (λ l. modules_of outer (siblings (map item_under l))) left)))
          ∙ c.loop-item.invariant.units)));
      valid =
          ap (λ l. list_all valid_unit (units_of l)) c.in_ok-push-2.ensures.items
          ∙ (ap (list_all valid_unit) (map_push module_tree c.loop-item.units.items unit)
          ∙ valid_more valid_unit (units_of c.loop-item.units.items) (module_tree unit) c.loop-item.invariant.valid made.valid);
    }

pub parts_of-returns : goal.parts_of-returns
parts_of-returns t c =
    let none = drop_past c.args.items.now c.loop-item.item-index c.loop-item-test.false in
    record {
      children =
          sym (append-nil c.loop-item.children)
          ∙ (ap (λ l. c.loop-item.children ++ l) (sym (children-none c.args.outer.now) ∙ sym (ap (λ l. children_of c.args.outer.now (siblings (map item_under l))) none))
          ∙ c.loop-item.invariant.children);
      units =
          sym (joined_ended (units_of c.loop-item.units.items))
          ∙ (ap (joined (units_of c.loop-item.units.items)) (sym (modules-none c.args.outer.now) ∙ sym (ap (λ l. modules_of c.args.outer.now (siblings (map item_under l))) none))
          ∙ c.loop-item.invariant.units);
      valid = c.loop-item.invariant.valid;
    }

-- ---- one of them

pub part_of-props_inside-inner-requires-clause-stands : goal.part_of-props_inside-inner-requires-clause-stands
part_of-props_inside-inner-requires-clause-stands t c = subst (StandsAlone c.args.outer.now) (cluster-child c.args.item.now c.in-Cluster.cluster c.in-Cluster.is) c.requires

pub part_of-cluster_part-requires-clause-stands : goal.part_of-cluster_part-requires-clause-stands
part_of-cluster_part-requires-clause-stands t c = subst (StandsAlone c.args.outer.now) (cluster-child c.args.item.now c.in-Cluster.cluster c.in-Cluster.is) c.requires

pub part_of-cluster_part-requires-clause-inside : goal.part_of-cluster_part-requires-clause-inside
part_of-cluster_part-requires-clause-inside t c =
    subst (λ (p : Props). AreParts p (siblings (map item_under (out-Cluster c.in-Cluster.cluster).children.items)) c.in_ok-inside-in-Cluster.inside) c.props_inside-inner.ensures.props
    (subst (λ (items : List Item). AreParts c.props_inside-inner.result (siblings (map item_under items)) c.in_ok-inside-in-Cluster.inside) c.as_slice-children.ensures.value c.in_ok-inside-in-Cluster.ensures)

pub part_of-register_part-requires : goal.part_of-register_part-requires
part_of-register_part-requires t c = subst (StandsAlone c.args.outer.now) (register-child c.args.item.now c.in-Register.register c.in-Register.is) c.requires

pub part_of-returns-in_ok-inside-in-Cluster : goal.part_of-returns-in_ok-inside-in-Cluster
part_of-returns-in_ok-inside-in-Cluster t c = subst (λ x. IfOk c.cluster_part.result (IsPart c.args.outer.now x)) (sym (cluster-child c.args.item.now c.in-Cluster.cluster c.in-Cluster.is)) c.cluster_part.ensures

pub part_of-returns-in-Register : goal.part_of-returns-in-Register
part_of-returns-in-Register t c = subst (λ x. IfOk c.register_part.result (IsPart c.args.outer.now x)) (sym (register-child c.args.item.now c.in-Register.register c.in-Register.is)) c.register_part.ensures
