use Rattle.std.proofs.Common.{subst}
use Rattle.yaml_block.specs.Trees.{Tree}
use Rattle.patch_form.specs.Unmet.{AllMet}
use Rattle.patch_form.specs.Demands.{At}
use Rattle.patch_form.specs.Finding.{First}
use Rattle.patch_form.specs.Mappings.{from_in, from_there}
use Rattle.patch_form.proofs.Arms.{in_empty, in_scalar, in_any_list, in_map}
use Rattle.patch_form.proofs.entry.from_fault.Goals as goal

pub returns-in-Empty : goal.returns-in-Empty
returns-in-Empty c = in_empty (λ (tree : Tree). First (from_in c.args.line tree) c.fault.result) c.args.node.now c.in-Empty.is c.fault.ensures

pub returns-in-Scalar : goal.returns-in-Scalar
returns-in-Scalar c = in_scalar (λ (tree : Tree). AllMet (from_in c.args.line tree)) c.args.node.now c.in-Scalar.field-0 c.in-Scalar.is tt

pub returns-in-List : goal.returns-in-List
returns-in-List c = in_any_list (λ (tree : Tree). AllMet (from_in c.args.line tree)) c.args.node.now c.in-List.field-0 c.in-List.is tt

pub returns-in-Map : goal.returns-in-Map
returns-in-Map c =
    in_map (λ (tree : Tree). First (from_in c.args.line tree) c.from_there.result) c.args.node.now c.in-Map.entries c.as_slice.result.now c.in-Map.is c.as_slice.ensures.value
    (subst (λ (at : At). First (from_there c.args.line at) c.from_there.result) c.at_key.ensures c.from_there.ensures)
