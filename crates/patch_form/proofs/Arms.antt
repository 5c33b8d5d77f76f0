-- What a fact of a node's plain data is in each arm of a match on the node.
use Rattle.std.proofs.Common.{◌≡◌, ℕ, List, map, sym, ap, subst, ◌∙◌}
use Rattle.yaml_block.specs.declared.node.Node.{Node}
use Rattle.yaml_block.specs.declared.node.Node.TheVariants.{Empty, Scalar, List as ListOf, Map}
use Rattle.yaml_block.specs.declared.node.Items.{Items, out-Items}
use Rattle.yaml_block.specs.declared.node.Entries.{Entries, out-Entries}
use Rattle.yaml_block.specs.Nodes.{entry_under, entries_under, item_under, items_under, node_tree}
use Rattle.yaml_block.specs.Trees.{Tree, nothing, scalar, list, mapping, items_of, entries_of}
use Rattle.yaml_block.proofs.Nodes.{node_tree-empty, node_tree-scalar, node_tree-list, node_tree-mapping, entries_under-is, items_under-is}

module _ (P : Tree → Type 0) (node : Node) where
  pub in_empty : node ≡ Empty → P nothing → P (node_tree node)
  in_empty is fact = subst P (sym (ap node_tree is ∙ node_tree-empty)) fact

  pub in_scalar : (text : List ℕ) → node ≡ Scalar text → P (scalar text) → P (node_tree node)
  in_scalar text is fact = subst P (sym (ap node_tree is ∙ node_tree-scalar text)) fact

  pub in_any_list : (items : Items) → node ≡ ListOf items → P (list (items_of (items_under items))) → P (node_tree node)
  in_any_list items is fact = subst P (sym (ap node_tree is ∙ node_tree-list items)) fact

  pub in_any_map : (named : Entries) → node ≡ Map named → P (mapping (entries_of (entries_under named))) → P (node_tree node)
  in_any_map named is fact = subst P (sym (ap node_tree is ∙ node_tree-mapping named)) fact

  pub in_map : (named : Entries) (slice : List (ℕ × List ℕ × Node)) → node ≡ Map named → slice ≡ (out-Entries named).entries.items → P (mapping (entries_of (map entry_under slice))) → P (node_tree node)
  in_map named slice is same fact =
      in_any_map named is (subst (λ (es : List (ℕ × List ℕ × Tree)). P (mapping (entries_of es))) (ap (map entry_under) same ∙ sym (entries_under-is named)) fact)

  pub in_list : (items : Items) (slice : List (ℕ × Node)) → node ≡ ListOf items → slice ≡ (out-Items items).items.items → P (list (items_of (map item_under slice))) → P (node_tree node)
  in_list items slice is same fact =
      in_any_list items is (subst (λ (is : List (ℕ × Tree)). P (list (items_of is))) (ap (map item_under) same ∙ sym (items_under-is items)) fact)

  pub out_map : (named : Entries) (slice : List (ℕ × List ℕ × Node)) → node ≡ Map named → slice ≡ (out-Entries named).entries.items → P (node_tree node) → P (mapping (entries_of (map entry_under slice)))
  out_map named slice is same fact =
      subst (λ (es : List (ℕ × List ℕ × Tree)). P (mapping (entries_of es))) (entries_under-is named ∙ sym (ap (map entry_under) same)) (subst P (ap node_tree is ∙ node_tree-mapping named) fact)

  pub out_scalar : (text : List ℕ) → node ≡ Scalar text → P (node_tree node) → P (scalar text)
  out_scalar text is fact = subst P (ap node_tree is ∙ node_tree-scalar text) fact

  pub out_list : (items : Items) (slice : List (ℕ × Node)) → node ≡ ListOf items → slice ≡ (out-Items items).items.items → P (node_tree node) → P (list (items_of (map item_under slice)))
  out_list items slice is same fact =
      subst (λ (is : List (ℕ × Tree)). P (list (items_of is))) (items_under-is items ∙ sym (ap (map item_under) same)) (subst P (ap node_tree is ∙ node_tree-list items) fact)
