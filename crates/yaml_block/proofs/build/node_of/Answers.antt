use Rattle.std.proofs.Common.{ℕ, List, map, ap, sym, ◌∙◌}
use Rattle.yaml_block.specs.Meanings.{value_tree}
use Rattle.yaml_block.specs.Trees.{Tree, scalar, list, mapping, items_of, entries_of}
use Rattle.yaml_block.proofs.Nodes.{node_tree-list, node_tree-mapping}
use Rattle.yaml_block.proofs.build.node_of.Goals as goal

pub returns-in_ok-items_in-in-Sequence : goal.returns-in_ok-items_in-in-Sequence
returns-in_ok-items_in-in-Sequence c =
    node_tree-list c.in_ok-items_in-in-Sequence.field-0
    ∙ ap (λ (items : List (ℕ × Tree)). list (items_of items)) (c.in_ok-items_in-in-Sequence.ensures ∙ ap (map (λ text. (c.args.line, scalar text))) c.as_slice.ensures)
    ∙ sym (ap (value_tree c.args.line) c.in-Sequence.is)

pub returns-in_ok-entries_in-in-Mapping : goal.returns-in_ok-entries_in-in-Mapping
returns-in_ok-entries_in-in-Mapping c =
    node_tree-mapping c.in_ok-entries_in-in-Mapping.field-0
    ∙ ap (λ (entries : List (ℕ × List ℕ × Tree)). mapping (entries_of entries)) (c.in_ok-entries_in-in-Mapping.ensures ∙ ap (map (λ pair. (c.args.line, pair.0, scalar pair.1))) c.as_slice-in-Mapping.ensures)
    ∙ sym (ap (value_tree c.args.line) c.in-Mapping.is)
