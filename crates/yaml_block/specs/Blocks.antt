-- What the lines of block text spell: a mapping at an indent, which is a run of keys and entries with the lines that belong to them
-- (YAML's block mappings and sequences, narrowed).
use Rattle.std.specs.Prelude.{◌≡◌, ◌<◌, ◌≤◌, ℕ, Bool, true, false, List, [], ◌∷◌, ◌++◌, map}
use Rattle.yaml_block.specs.declared.value.Value.{Value}
use Rattle.yaml_block.specs.declared.content.Content.{Content}
use Rattle.yaml_block.specs.declared.content.Content.TheVariants.{Item, Key, Entry}
use Rattle.yaml_block.specs.declared.line.Line.{Line}

-- The entries of a mapping, each with its line and key, in order: one with a value on its line, one with nothing, one with a list of at
-- least one item, one with a mapping; and then the other entries.
pub data Forest : Type 0 where
  ended : Forest
  valued : ℕ → List ℕ → Value → Forest → Forest
  keyed : ℕ → List ℕ → Forest → Forest
  listed : ℕ → List ℕ → ℕ × Value → List (ℕ × Value) → Forest → Forest
  nested : ℕ → List ℕ → Forest → Forest → Forest

abbrev pub is_ended : Forest → Bool
is_ended ended = true
is_ended (valued number key value others) = false
is_ended (keyed number key others) = false
is_ended (listed number key first items others) = false
is_ended (nested number key inside others) = false

abbrev pub line_of : ℕ → ℕ → Content → Line
line_of number indent content = record { number = number; indent = indent; content = content }

-- the lines of a list at an indent
abbrev pub item_lines : ℕ → List (ℕ × Value) → List Line
item_lines indent items = map (λ item. line_of item.0 indent (Item item.1)) items

-- `Spells indent entries lines`: the lines are those of the entries at the indent. Behind a key without a value the lines of a list stand at
-- the same indent or deeper, those of a mapping deeper.
abbrev pub Spells : ℕ → Forest → List Line → Type 0
Spells indent ended lines = lines ≡ []
Spells indent (valued number key value others) lines = (rest : List Line) × Spells indent others rest × (lines ≡ line_of number indent (Entry key value) ∷ rest)
Spells indent (keyed number key others) lines = (rest : List Line) × Spells indent others rest × (lines ≡ line_of number indent (Key key) ∷ rest)
Spells indent (listed number key first items others) lines =
    (rest : List Line) × (deeper : ℕ) × (indent ≤ deeper) × Spells indent others rest × (lines ≡ line_of number indent (Key key) ∷ (item_lines deeper (first ∷ items) ++ rest))
Spells indent (nested number key inside others) lines =
    (rest : List Line) × (deeper : ℕ) × (deep : List Line) × (indent < deeper) × (is_ended inside ≡ false) × Spells deeper inside deep × Spells indent others rest × (lines ≡ line_of number indent (Key key) ∷ (deep ++ rest))
