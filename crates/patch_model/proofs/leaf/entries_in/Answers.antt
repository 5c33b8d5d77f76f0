use Rattle.std.proofs.Common.{◌≡◌, map, refl}
use Rattle.yaml_block.specs.Nodes.{entry_under}
use Rattle.yaml_block.specs.Trees.{Tree, no_entries, entries_of}
use Rattle.patch_form.specs.Parts.{entries_in}
use Rattle.patch_form.proofs.Arms.{in_empty, in_scalar, in_any_list, in_map}
use Rattle.patch_model.proofs.leaf.entries_in.Goals as goal

pub returns-in-Empty : goal.returns-in-Empty
returns-in-Empty c = in_empty (λ (tree : Tree). no_entries ≡ entries_in tree) c.args.node.now c.in-Empty.is refl

pub returns-in-Scalar : goal.returns-in-Scalar
returns-in-Scalar c = in_scalar (λ (tree : Tree). no_entries ≡ entries_in tree) c.args.node.now c.in-Scalar.field-0 c.in-Scalar.is refl

pub returns-in-List : goal.returns-in-List
returns-in-List c = in_any_list (λ (tree : Tree). no_entries ≡ entries_in tree) c.args.node.now c.in-List.field-0 c.in-List.is refl

pub returns-in-Map : goal.returns-in-Map
returns-in-Map c = in_map (λ (tree : Tree). entries_of (map entry_under c.as_slice.result.now) ≡ entries_in tree) c.args.node.now c.in-Map.entries c.as_slice.result.now c.in-Map.is c.as_slice.ensures.value refl
