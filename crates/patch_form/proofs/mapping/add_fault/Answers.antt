use Rattle.std.proofs.Common.{map}
use Rattle.yaml_block.specs.Nodes.{entry_under, node_tree}
use Rattle.yaml_block.specs.Trees.{Tree, entries_of}
use Rattle.yaml_block.proofs.Answers.{if_ok}
use Rattle.patch_form.specs.Finding.{First}
use Rattle.patch_form.specs.Demands.{addition_demands}
use Rattle.patch_form.specs.Mappings.{entries_demands}
use Rattle.patch_form.proofs.Arms.{in_empty, in_scalar, in_any_list, in_map}
use Rattle.patch_form.proofs.mapping.add_fault.Goals as goal

pub returns-in-Empty : goal.returns-in-Empty
returns-in-Empty c = in_empty (λ (tree : Tree). First (entries_demands addition_demands c.args.line tree) c.fault.result) c.args.node.now c.in-Empty.is c.fault.ensures

pub returns-in-Scalar : goal.returns-in-Scalar
returns-in-Scalar c = in_scalar (λ (tree : Tree). First (entries_demands addition_demands c.args.line tree) c.fault-in-Scalar.result) c.args.node.now c.in-Scalar.field-0 c.in-Scalar.is c.fault-in-Scalar.ensures

pub returns-in-List : goal.returns-in-List
returns-in-List c = in_any_list (λ (tree : Tree). First (entries_demands addition_demands c.args.line tree) c.fault-in-List.result) c.args.node.now c.in-List.field-0 c.in-List.is c.fault-in-List.ensures

pub returns-in-Map : goal.returns-in-Map
returns-in-Map c =
    if_ok c.addition_faults.result (First (addition_demands (entries_of (map entry_under c.as_slice.result.now)))) (First (entries_demands addition_demands c.args.line (node_tree c.args.node.now)))
    (λ found first. in_map (λ (tree : Tree). First (entries_demands addition_demands c.args.line tree) found) c.args.node.now c.in-Map.entries c.as_slice.result.now c.in-Map.is c.as_slice.ensures.value first)
    c.addition_faults.ensures
