use Rattle.std.proofs.Common.{◌≡◌, ℕ, List, map, ap, subst, sym, ◌∙◌}
use Rattle.yaml_block.specs.Nodes.{item_under, node_tree}
use Rattle.yaml_block.specs.Trees.{Tree, items_of, list}
use Rattle.yaml_block.proofs.Nodes.{node_tree-empty, node_tree-scalar, node_tree-list, node_tree-mapping, items_under-is}
use Rattle.patch_form.specs.Unmet.{AllMet}
use Rattle.patch_form.specs.Finding.{First}
use Rattle.patch_form.specs.Mappings.{strip_demands}
use Rattle.patch_form.proofs.value.strip_fault.Goals as goal

pub returns-in-Empty : goal.returns-in-Empty
returns-in-Empty c = subst (λ (tree : Tree). First (strip_demands c.args.line tree) c.fault.result) (sym (ap node_tree c.in-Empty.is ∙ node_tree-empty)) c.fault.ensures

pub returns-in-Map : goal.returns-in-Map
returns-in-Map c = subst (λ (tree : Tree). First (strip_demands c.args.line tree) c.fault-in-Map.result) (sym (ap node_tree c.in-Map.is ∙ node_tree-mapping c.in-Map.field-0)) c.fault-in-Map.ensures

pub returns-in-Scalar : goal.returns-in-Scalar
returns-in-Scalar c = subst (λ (tree : Tree). AllMet (strip_demands c.args.line tree)) (sym (ap node_tree c.in-Scalar.is ∙ node_tree-scalar c.in-Scalar.field-0)) tt

pub returns-in-List : goal.returns-in-List
returns-in-List c =
    let items = items_of (map item_under c.as_slice.result.now) in
    let seen : node_tree c.args.node.now ≡ list items =
    ap node_tree c.in-List.is ∙ node_tree-list c.in-List.items ∙ ap (λ (is : List (ℕ × Tree)). list (items_of is)) (items_under-is c.in-List.items ∙ ap (map item_under) (sym c.as_slice.ensures.value)) in
    subst (λ (tree : Tree). First (strip_demands c.args.line tree) c.prefix_items.result) (sym seen) c.prefix_items.ensures
