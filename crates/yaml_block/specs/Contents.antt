-- What a line of block text says: an item `- value`, a key `key:` or an entry `key: value` (YAML's block sequences and mappings, narrowed).
use Rattle.std.specs.Prelude.{ℕ, List, Option, Some, None, codes, if◌then◌else◌}
use Rattle.text_scan.specs.Fronts.{rest_of, stripped_of}
use Rattle.text_scan.specs.Steps.{◌>>=◌}
use Rattle.yaml_block.specs.declared.scalar.Place.TheVariants.{Line}
use Rattle.yaml_block.specs.declared.content.Content.{Content}
use Rattle.yaml_block.specs.declared.content.Content.TheVariants.{Item, Key, Entry}
use Rattle.yaml_block.specs.Spaces.{is_space, starts, ends}
use Rattle.yaml_block.specs.Scalars.{scalar_at}
use Rattle.yaml_block.specs.Values.{value_at}

-- behind `- `: a value, and then nothing that counts
unfoldable pub item_at : List ℕ → Option Content
item_at text = do
  value ← value_at (rest_of is_space text)
  if ends value.1 then Some (Item value.0) else None

-- behind `key:` and a space: a value, and then nothing that counts
unfoldable pub entry_with : List ℕ → List ℕ → Option Content
entry_with key text = do
  value ← value_at (rest_of is_space text)
  if ends value.1 then Some (Entry key value.0) else None

-- behind `key:`
unfoldable pub behind_key : List ℕ → List ℕ → Option Content
behind_key key text = if ends text then Some (Key key) else if starts 32 text then entry_with key text else None

unfoldable pub entry_at : List ℕ → Option Content
entry_at text = do
  key ← scalar_at Line text
  rest ← stripped_of (codes ":") (rest_of is_space key.1)
  behind_key key.0 rest

abbrev pub item_or_entry : Option (List ℕ) → List ℕ → Option Content
item_or_entry (Some inside) text = item_at inside
item_or_entry None text = entry_at text

-- what a line says, without the spaces at its front
unfoldable pub content_at : List ℕ → Option Content
content_at text = item_or_entry (stripped_of (codes "- ") text) text
