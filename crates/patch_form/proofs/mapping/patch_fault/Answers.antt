use Rattle.std.proofs.Common.{true, map}
use Rattle.yaml_block.specs.Nodes.{entry_under, node_tree}
use Rattle.yaml_block.specs.Trees.{Tree, entries_of}
use Rattle.yaml_block.proofs.Answers.{if_ok}
use Rattle.patch_form.specs.Unmet.{AllMet}
use Rattle.patch_form.specs.Finding.{First}
use Rattle.patch_form.specs.Mappings.{mapping_demands, patch_demands}
use Rattle.patch_form.proofs.Arms.{in_empty, in_scalar, in_any_list, in_map}
use Rattle.patch_form.proofs.mapping.patch_fault.Goals as goal

pub returns-in-Empty : goal.returns-in-Empty
returns-in-Empty c = in_empty (λ (tree : Tree). AllMet (patch_demands tree)) c.args.node.now c.in-Empty.is tt

pub returns-in-Scalar : goal.returns-in-Scalar
returns-in-Scalar c = in_scalar (λ (tree : Tree). AllMet (patch_demands tree)) c.args.node.now c.in-Scalar.field-0 c.in-Scalar.is tt

pub returns-in-List : goal.returns-in-List
returns-in-List c = in_any_list (λ (tree : Tree). AllMet (patch_demands tree)) c.args.node.now c.in-List.field-0 c.in-List.is tt

pub returns-in-Map : goal.returns-in-Map
returns-in-Map c =
    if_ok c.mapping_fault.result (First (mapping_demands true (entries_of (map entry_under c.as_slice.result.now)))) (First (patch_demands (node_tree c.args.node.now)))
    (λ found first. in_map (λ (tree : Tree). First (patch_demands tree) found) c.args.node.now c.in-Map.entries c.as_slice.result.now c.in-Map.is c.as_slice.ensures.value first)
    c.mapping_fault.ensures
