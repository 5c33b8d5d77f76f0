-- What is built from the last line to the first is what the runs of lines mean.
use Rattle.std.proofs.Common.{◌≡◌, ℕ, Bool, true, false, List, [], ◌∷◌, map, refl, sym, ap, ◌∙◌}
use Rattle.std.specs.Prelude.{◌==◌, nat_le, nat_lt, if◌then◌else◌}
use Rattle.yaml_block.specs.declared.value.Value.{Value}
use Rattle.yaml_block.specs.declared.content.Content.{Content}
use Rattle.yaml_block.specs.declared.content.Content.TheVariants.{Item, Key, Entry}
use Rattle.yaml_block.specs.declared.line.Line.{Line}
use Rattle.yaml_block.specs.Blocks.{Forest, ended, valued, keyed, listed, nested, Spells}
use Rattle.yaml_block.specs.Building.{Built, items_at, entries_at, below, built_behind, tree_in, with_line}
use Rattle.yaml_block.specs.Building as building
use Rattle.yaml_block.specs.Meanings.{value_tree, item_tree, entries_in, file_tree}
use Rattle.yaml_block.specs.Runs.{Run, listing, mapping, with_item, with_entry, with_key, with_content, grouped}
use Rattle.yaml_block.specs.Trees.{Tree, nothing, list, items_of, entries_of}
use Rattle.yaml_block.specs.Trees as trees
use Rattle.yaml_block.proofs.Blocks.{begun}
use Rattle.yaml_block.proofs.Spelled.{grouped-whole}

-- what a run means
abbrev meaning : Run → Built
meaning (listing indent item items) = items_at indent (map item_tree (item ∷ items))
meaning (mapping indent forest) = entries_at indent (entries_in forest)

abbrev meanings : List Run → List Built
meanings runs = map meaning runs

item-meant : (indent : ℕ) (item : ℕ × Value) (runs : List Run) → building.with_item indent (item_tree item) (meanings runs) ≡ meanings (with_item indent item runs)
unfolding with_item building.with_item
item-meant indent item [] = refl
item-meant indent item (listing other next items ∷ runs) = joins (indent == other)
  where
    joins : (same : Bool) → (if same then items_at indent (item_tree item ∷ map item_tree (next ∷ items)) ∷ meanings runs else items_at indent (item_tree item ∷ []) ∷ items_at other (map item_tree (next ∷ items)) ∷ meanings runs) ≡ meanings (if same then listing indent item (next ∷ items) ∷ runs else listing indent item [] ∷ listing other next items ∷ runs)
    joins true = refl
    joins false = refl
item-meant indent item (mapping other forest ∷ runs) = refl

module _ (indent : ℕ) (entry : Forest → Forest) (meant : ℕ × List ℕ × Tree) (enters : (forest : Forest) → entries_in (entry forest) ≡ meant ∷ entries_in forest) where
  begins : (runs : List Run) → entries_at indent (meant ∷ []) ∷ meanings runs ≡ meanings (mapping indent (entry ended) ∷ runs)
  begins runs = ap (λ entries. entries_at indent entries ∷ meanings runs) (sym (enters ended))

  joins : (other : ℕ) (forest : Forest) (runs : List Run) (same : Bool) → (if same then entries_at indent (meant ∷ entries_in forest) ∷ meanings runs else entries_at indent (meant ∷ []) ∷ entries_at other (entries_in forest) ∷ meanings runs) ≡ meanings (if same then mapping indent (entry forest) ∷ runs else mapping indent (entry ended) ∷ mapping other forest ∷ runs)
  joins other forest runs true = ap (λ entries. entries_at indent entries ∷ meanings runs) (sym (enters forest))
  joins other forest runs false = begins (mapping other forest ∷ runs)

  entry-meant : (runs : List Run) → building.with_entry indent meant (meanings runs) ≡ meanings (with_entry indent entry runs)
  unfolding with_entry building.with_entry
  entry-meant [] = begins []
  entry-meant (listing other next items ∷ runs) = begins (listing other next items ∷ runs)
  entry-meant (mapping other forest ∷ runs) = joins other forest runs (indent == other)

-- an entry in front of what was left behind a key
abbrev behind_key : ℕ → ℕ → List ℕ → Tree × List Built → List Built
behind_key indent number key taken = building.with_entry indent (number, key, taken.0) taken.1

module _ (indent number : ℕ) (key : List ℕ) where
  keyed-meant : (runs : List Run) → behind_key indent number key (nothing, meanings runs) ≡ meanings (with_entry indent (keyed number key) runs)
  keyed-meant runs = entry-meant indent (keyed number key) (number, key, nothing) (λ forest. refl) runs

  listed-meant : (other : ℕ) (item : ℕ × Value) (items : List (ℕ × Value)) (runs : List Run) (within : Bool) → behind_key indent number key (if within then (list (items_of (map item_tree (item ∷ items))), meanings runs) else (nothing, meanings (listing other item items ∷ runs))) ≡ meanings (if within then with_entry indent (listed number key item items) runs else with_entry indent (keyed number key) (listing other item items ∷ runs))
  listed-meant other item items runs true = entry-meant indent (listed number key item items) (number, key, list (items_of (map item_tree (item ∷ items)))) (λ forest. refl) runs
  listed-meant other item items runs false = keyed-meant (listing other item items ∷ runs)

  nested-meant : (other : ℕ) (forest : Forest) (runs : List Run) (deeper : Bool) → behind_key indent number key (if deeper then (trees.mapping (entries_of (entries_in forest)), meanings runs) else (nothing, meanings (mapping other forest ∷ runs))) ≡ meanings (if deeper then with_entry indent (nested number key forest) runs else with_entry indent (keyed number key) (mapping other forest ∷ runs))
  nested-meant other forest runs true = entry-meant indent (nested number key forest) (number, key, trees.mapping (entries_of (entries_in forest))) (λ f. refl) runs
  nested-meant other forest runs false = keyed-meant (mapping other forest ∷ runs)

  key-meant : (runs : List Run) → behind_key indent number key (below indent (meanings runs)) ≡ meanings (with_key indent number key runs)
  unfolding with_key below
  key-meant [] = keyed-meant []
  key-meant (listing other item items ∷ runs) = listed-meant other item items runs (nat_le indent other)
  key-meant (mapping other forest ∷ runs) = nested-meant other forest runs (nat_lt indent other)

content-meant : (number indent : ℕ) (said : Content) (runs : List Run) → building.with_content number indent said (meanings runs) ≡ meanings (with_content number indent said runs)
content-meant number indent (Item value) runs = item-meant indent (number, value) runs
content-meant number indent (Key key) runs = key-meant indent number key runs
content-meant number indent (Entry key value) runs = entry-meant indent (valued number key value) (number, key, value_tree number value) (λ forest. refl) runs

lines-meant : (lines : List Line) → built_behind lines [] ≡ meanings (grouped lines)
unfolding built_behind with_line grouped
lines-meant [] = refl
lines-meant (line ∷ lines) =
    ap (building.with_content line.number line.indent line.content) (lines-meant lines) ∙ content-meant line.number line.indent line.content (grouped lines)

begun-meant : (forest : Forest) → tree_in (meanings (begun 0 forest [])) ≡ file_tree (entries_in forest)
begun-meant ended = refl
begun-meant (valued number key value others) = refl
begun-meant (keyed number key others) = refl
begun-meant (listed number key item items others) = refl
begun-meant (nested number key inside others) = refl

-- the node that is built from lines is the one that they spell
pub built-spelled : (forest : Forest) (lines : List Line) → Spells 0 forest lines → tree_in (built_behind lines []) ≡ file_tree (entries_in forest)
built-spelled forest lines spells = ap tree_in (lines-meant lines) ∙ ap (λ runs. tree_in (meanings runs)) (grouped-whole forest lines spells) ∙ begun-meant forest
