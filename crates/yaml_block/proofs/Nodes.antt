-- The equations of the plain data of nodes.
use Rattle.std.proofs.Common.{◌≡◌, ℕ, List, [], ◌∷◌, ◌++◌, map, refl, sym, ap, ◌∙◌}
use Rattle.std.specs.Prelude.{reverse}
use Rattle.std.proofs.lemmas.List.{map-append, reverse-append}
use Rattle.yaml_block.specs.declared.node.Node.{Node}
use Rattle.yaml_block.specs.declared.node.Node.TheVariants.{Empty, Scalar, List as ListOf, Map, rolls-Empty, rolls-Scalar, rolls-List, rolls-Map}
use Rattle.yaml_block.specs.declared.node.Node.TheOpen.{Node-F, Items-F, Entries-F}
use Rattle.yaml_block.specs.declared.node.Node.TheOpen as opened
use Rattle.yaml_block.specs.declared.node.Node.TheFolds.{fold-Node, fold-roll-Node, fold-roll-Items, fold_out-Items, fold-roll-Entries, fold_out-Entries}
use Rattle.yaml_block.specs.declared.node.Items.{Items, out-Items, roll-Items}
use Rattle.yaml_block.specs.declared.node.Entries.{Entries, out-Entries, roll-Entries}
use Rattle.yaml_block.specs.Nodes.{node_tree, items_under, entries_under, item_under, entry_under, node_layer, items_layer, entries_layer}
use Rattle.yaml_block.specs.Trees.{Tree, nothing, scalar, list, mapping, items_of, entries_of}

pub node_tree-empty : node_tree Empty ≡ nothing
unfolding node_tree
node_tree-empty = ap (fold-Node Tree (List (ℕ × List ℕ × Tree)) (List (ℕ × Tree)) node_layer entries_layer items_layer) (sym rolls-Empty) ∙ fold-roll-Node Tree (List (ℕ × List ℕ × Tree)) (List (ℕ × Tree)) node_layer entries_layer items_layer opened.Empty

pub node_tree-scalar : (text : List ℕ) → node_tree (Scalar text) ≡ scalar text
unfolding node_tree
node_tree-scalar text = ap (fold-Node Tree (List (ℕ × List ℕ × Tree)) (List (ℕ × Tree)) node_layer entries_layer items_layer) (sym (rolls-Scalar text)) ∙ fold-roll-Node Tree (List (ℕ × List ℕ × Tree)) (List (ℕ × Tree)) node_layer entries_layer items_layer (opened.Scalar text)

pub node_tree-list : (items : Items) → node_tree (ListOf items) ≡ list (items_of (items_under items))
unfolding node_tree items_under
node_tree-list items =
    ap node_tree' (sym (rolls-List items))
    ∙ fold-roll-Node Tree (List (ℕ × List ℕ × Tree)) (List (ℕ × Tree)) node_layer entries_layer items_layer (opened.List items)
  where
    node_tree' : Node → Tree
    node_tree' = fold-Node Tree (List (ℕ × List ℕ × Tree)) (List (ℕ × Tree)) node_layer entries_layer items_layer

pub node_tree-mapping : (entries : Entries) → node_tree (Map entries) ≡ mapping (entries_of (entries_under entries))
unfolding node_tree entries_under
node_tree-mapping entries =
    ap node_tree' (sym (rolls-Map entries))
    ∙ fold-roll-Node Tree (List (ℕ × List ℕ × Tree)) (List (ℕ × Tree)) node_layer entries_layer items_layer (opened.Map entries)
  where
    node_tree' : Node → Tree
    node_tree' = fold-Node Tree (List (ℕ × List ℕ × Tree)) (List (ℕ × Tree)) node_layer entries_layer items_layer

pub items_under-is : (items : Items) → items_under items ≡ map item_under (out-Items items).items.items
unfolding node_tree items_under
items_under-is items = fold_out-Items Tree (List (ℕ × List ℕ × Tree)) (List (ℕ × Tree)) node_layer entries_layer items_layer items

pub entries_under-is : (entries : Entries) → entries_under entries ≡ map entry_under (out-Entries entries).entries.items
unfolding node_tree entries_under
entries_under-is entries = fold_out-Entries Tree (List (ℕ × List ℕ × Tree)) (List (ℕ × Tree)) node_layer entries_layer items_layer entries

pub items_under-roll : (items : Items-F Node Entries Items) → items_under (roll-Items items) ≡ map item_under items.items.items
unfolding node_tree items_under
items_under-roll items = fold-roll-Items Tree (List (ℕ × List ℕ × Tree)) (List (ℕ × Tree)) node_layer entries_layer items_layer items

pub entries_under-roll : (entries : Entries-F Node Entries Items) → entries_under (roll-Entries entries) ≡ map entry_under entries.entries.items
unfolding node_tree entries_under
entries_under-roll entries = fold-roll-Entries Tree (List (ℕ × List ℕ × Tree)) (List (ℕ × Tree)) node_layer entries_layer items_layer entries

pub ruleset node_trees = (node_tree-empty, node_tree-scalar, node_tree-list, node_tree-mapping)

pub map_reverse : {A B : Type 0} (f : A → B) (xs : List A) → map f (reverse xs) ≡ reverse (map f xs)
map_reverse f [] = refl
map_reverse f (x ∷ xs) =
    ap (map f) (reverse-append (x ∷ []) xs) ∙ map-append f (reverse xs) (x ∷ []) ∙ ap (λ ys. ys ++ f x ∷ []) (map_reverse f xs) ∙ sym (reverse-append (f x ∷ []) (map f xs))
