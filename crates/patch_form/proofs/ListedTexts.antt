-- Lists of patterns and of prefixes, item by item.
use Rattle.std.proofs.Common.{◌≡◌, ◌<◌, ◌≤◌, ℕ, ◌+◌, List, [], ◌++◌, map, length, drop, get_or, ap}
use Rattle.std.proofs.lemmas.List.{drop_all}
use Rattle.yaml_block.proofs.Places.{from_place}
use Rattle.yaml_block.specs.declared.node.Node.{Node}
use Rattle.yaml_block.specs.Nodes.{item_under, node_tree}
use Rattle.yaml_block.specs.Trees.{items_of}
use Rattle.patch_form.specs.Demands.{Demand}
use Rattle.patch_form.specs.Mappings.{pattern_item, pattern_items, prefix_item, prefix_items}

abbrev pub patterns_from : List (ℕ × Node) → ℕ → List Demand
patterns_from items i = pattern_items (items_of (map item_under (drop i items)))

abbrev pub prefixes_from : List (ℕ × Node) → ℕ → List Demand
prefixes_from items i = prefix_items (items_of (map item_under (drop i items)))

module _ (items : List (ℕ × Node)) (i : ℕ) where
  pub patterns-done : length items ≤ i → patterns_from items i ≡ []
  patterns-done past = ap (λ (rest : List (ℕ × Node)). pattern_items (items_of (map item_under rest))) (drop_all i items past)

  pub prefixes-done : length items ≤ i → prefixes_from items i ≡ []
  prefixes-done past = ap (λ (rest : List (ℕ × Node)). prefix_items (items_of (map item_under rest))) (drop_all i items past)

  pub patterns-here : (item : ℕ × Node) → i < length items → item ≡ get_or items i item → patterns_from items i ≡ pattern_item item.0 (node_tree item.1) ++ patterns_from items (i + 1)
  patterns-here item within is = ap (λ (rest : List (ℕ × Node)). pattern_items (items_of (map item_under rest))) (from_place items i item within is)

  pub prefixes-here : (item : ℕ × Node) → i < length items → item ≡ get_or items i item → prefixes_from items i ≡ prefix_item item.0 (node_tree item.1) ++ prefixes_from items (i + 1)
  prefixes-here item within is = ap (λ (rest : List (ℕ × Node)). prefix_items (items_of (map item_under rest))) (from_place items i item within is)
