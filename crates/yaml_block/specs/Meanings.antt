-- What the lines of block text mean: the node that they spell (YAML's representation graph, narrowed to trees).
use Rattle.std.specs.Prelude.{◌≡◌, ℕ, List, [], ◌∷◌, map}
use Rattle.yaml_block.specs.declared.value.Value.{Value}
use Rattle.yaml_block.specs.declared.value.Value.TheVariants.{Scalar, Sequence, Mapping}
use Rattle.yaml_block.specs.declared.line.Line.{Line}
use Rattle.yaml_block.specs.Blocks.{Forest, ended, valued, keyed, listed, nested, Spells}
use Rattle.yaml_block.specs.Trees.{Tree, nothing, scalar, list, mapping, items_of, entries_of}

-- what a value on a line means: all in it stands on that line
abbrev pub value_tree : ℕ → Value → Tree
value_tree line (Scalar text) = scalar text
value_tree line (Sequence texts) = list (items_of (map (λ text. (line, scalar text)) texts))
value_tree line (Mapping pairs) = mapping (entries_of (map (λ pair. (line, pair.0, scalar pair.1)) pairs))

abbrev pub item_tree : (ℕ × Value) → (ℕ × Tree)
item_tree item = (item.0, value_tree item.0 item.1)

-- the entries of a mapping, each with its line and key
abbrev pub entries_in : Forest → List (ℕ × List ℕ × Tree)
entries_in ended = []
entries_in (valued line key value others) = (line, key, value_tree line value) ∷ entries_in others
entries_in (keyed line key others) = (line, key, nothing) ∷ entries_in others
entries_in (listed line key first items others) = (line, key, list (items_of (map item_tree (first ∷ items)))) ∷ entries_in others
entries_in (nested line key inside others) = (line, key, mapping (entries_of (entries_in inside))) ∷ entries_in others

-- a file without entries is empty, any other is a mapping
abbrev pub file_tree : List (ℕ × List ℕ × Tree) → Tree
file_tree [] = nothing
file_tree (first ∷ others) = mapping (entries_of (first ∷ others))

-- `Blocks lines tree`: the lines are those of a mapping at indent 0, or there are none, and the tree is what they mean
pub record Blocks (lines : List Line) (tree : Tree) : Type 0 where
  pub forest : Forest
  pub spelled : Spells 0 forest lines
  pub meant : tree ≡ file_tree (entries_in forest)
