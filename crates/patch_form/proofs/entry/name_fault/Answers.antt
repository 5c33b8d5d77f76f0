use Rattle.std.proofs.Common.{subst}
use Rattle.yaml_block.specs.Nodes.{node_tree}
use Rattle.yaml_block.specs.Trees.{Tree}
use Rattle.yaml_block.proofs.Answers.{if_ok}
use Rattle.patch_form.specs.declared.fault.FaultKind.TheVariants.{BadValue}
use Rattle.patch_form.specs.Unmet.{AllMet}
use Rattle.patch_form.specs.Demands.{At, names_array, one}
use Rattle.patch_form.specs.Finding.{First, at_of}
use Rattle.patch_form.specs.Mappings.{name_in, name_there}
use Rattle.patch_form.proofs.Arms.{in_empty, in_scalar, in_any_list, in_map}
use Rattle.patch_form.proofs.entry.name_fault.Goals as goal

pub returns-in-Empty : goal.returns-in-Empty
returns-in-Empty c =
    if_ok c.unnamed_fault.result (First (one c.args.line BadValue (names_array c.args.target.now))) (First (name_in c.args.line c.args.target.now (node_tree c.args.node.now)))
    (λ found first. in_empty (λ (tree : Tree). First (name_in c.args.line c.args.target.now tree) found) c.args.node.now c.in-Empty.is first)
    c.unnamed_fault.ensures

pub returns-in-Scalar : goal.returns-in-Scalar
returns-in-Scalar c = in_scalar (λ (tree : Tree). AllMet (name_in c.args.line c.args.target.now tree)) c.args.node.now c.in-Scalar.field-0 c.in-Scalar.is tt

pub returns-in-List : goal.returns-in-List
returns-in-List c = in_any_list (λ (tree : Tree). AllMet (name_in c.args.line c.args.target.now tree)) c.args.node.now c.in-List.field-0 c.in-List.is tt

pub returns-in-Map : goal.returns-in-Map
returns-in-Map c =
    if_ok c.name_there.result (First (name_there c.args.line c.args.target.now (at_of c.at_key-name.result))) (First (name_in c.args.line c.args.target.now (node_tree c.args.node.now)))
    (λ found first. in_map (λ (tree : Tree). First (name_in c.args.line c.args.target.now tree) found) c.args.node.now c.in-Map.entries c.as_slice.result.now c.in-Map.is c.as_slice.ensures.value
    (subst (λ (at : At). First (name_there c.args.line c.args.target.now at) found) c.at_key-name.ensures first))
    c.name_there.ensures
