-- A node as plain data: contracts see nodes, items and entries so.
use Rattle.std.specs.Prelude.{ℕ, List}
use Rattle.yaml_block.specs.declared.node.Node.{Node}
use Rattle.yaml_block.specs.declared.node.Items.{Items}
use Rattle.yaml_block.specs.declared.node.Entries.{Entries}
use Rattle.yaml_block.specs.declared.node.Node.TheOpen.{Node-F, Items-F, Entries-F}
use Rattle.yaml_block.specs.declared.node.Node.TheOpen as opened
use Rattle.yaml_block.specs.declared.node.Node.TheFolds.{fold-Node, fold-Items, fold-Entries}
use Rattle.yaml_block.specs.Trees.{Tree, nothing, scalar, list, mapping, items_of, entries_of}

-- a node in which what is below is plain data already
abbrev pub node_layer : Node-F Tree (List (ℕ × List ℕ × Tree)) (List (ℕ × Tree)) → Tree
node_layer opened.Empty = nothing
node_layer (opened.Scalar text) = scalar text
node_layer (opened.List items) = list (items_of items)
node_layer (opened.Map entries) = mapping (entries_of entries)

abbrev pub items_layer : Items-F Tree (List (ℕ × List ℕ × Tree)) (List (ℕ × Tree)) → List (ℕ × Tree)
items_layer element = element.items.items

abbrev pub entries_layer : Entries-F Tree (List (ℕ × List ℕ × Tree)) (List (ℕ × Tree)) → List (ℕ × List ℕ × Tree)
entries_layer element = element.entries.items

-- what a node means
unfoldable pub node_tree : Node → Tree
node_tree = fold-Node Tree (List (ℕ × List ℕ × Tree)) (List (ℕ × Tree)) node_layer entries_layer items_layer

-- the items of a list, each with its line
unfoldable pub items_under : Items → List (ℕ × Tree)
items_under = fold-Items Tree (List (ℕ × List ℕ × Tree)) (List (ℕ × Tree)) node_layer entries_layer items_layer

-- the entries of a mapping, each with its line and its key
unfoldable pub entries_under : Entries → List (ℕ × List ℕ × Tree)
entries_under = fold-Entries Tree (List (ℕ × List ℕ × Tree)) (List (ℕ × Tree)) node_layer entries_layer items_layer

abbrev pub item_under : (ℕ × Node) → (ℕ × Tree)
item_under item = (item.0, node_tree item.1)

abbrev pub entry_under : (ℕ × List ℕ × Node) → (ℕ × List ℕ × Tree)
entry_under entry = (entry.0, entry.1, node_tree entry.2)
