-- Mappings and lists that nest too deep, and keys that come again in their mapping (YAML: the keys of a mapping are unique; the bound on
-- nesting is this project's own).
use Rattle.std.specs.Prelude.{ℕ, ◌+◌, List, [], ◌∷◌, ◌++◌, Option, Some, None, nat_le, if◌then◌else◌}
use Rattle.std.specs.List.{list_any}
use Rattle.std.specs.Str.{bytes_eq}
use Rattle.yaml_block.specs.Trees.{Tree, ItemTrees, EntryTrees, nothing, scalar, list, mapping, no_items, item, no_entries, entry}

abbrev pub first : List ℕ → Option ℕ
first [] = None
first (line ∷ lines) = Some line

-- the line that holds a mapping or list which stands in so many others, where it nests deeper than 64
abbrev pub too_deep : ℕ → ℕ → List ℕ
too_deep level line = if nat_le 64 level then line ∷ [] else []

-- The lines of all entries and items that hold a mapping or list that nests deeper than 64, in order. `level` is how many mappings and
-- lists a node stands in, and `line` is that of the entry or item that holds it.
abbrev mutual
  pub deep_tree : ℕ → ℕ → Tree → List ℕ
  deep_tree level line nothing = []
  deep_tree level line (scalar text) = []
  deep_tree level line (list items) = too_deep level line ++ deep_items (level + 1) items
  deep_tree level line (mapping entries) = too_deep level line ++ deep_entries (level + 1) entries

  pub deep_items : ℕ → ItemTrees → List ℕ
  deep_items level no_items = []
  deep_items level (item line tree others) = deep_tree level line tree ++ deep_items level others

  pub deep_entries : ℕ → EntryTrees → List ℕ
  deep_entries level no_entries = []
  deep_entries level (entry line key tree others) = deep_tree level line tree ++ deep_entries level others

-- the line of a key that is among the keys before it
abbrev pub again : List (List ℕ) → ℕ → List ℕ → List ℕ
again before line key = if list_any (bytes_eq key) before then line ∷ [] else []

-- the lines of all keys that equal an earlier one of their mapping, in order
abbrev mutual
  pub doubles_in : Tree → List ℕ
  doubles_in nothing = []
  doubles_in (scalar text) = []
  doubles_in (list items) = doubles_among items
  doubles_in (mapping entries) = doubles_behind [] entries

  pub doubles_among : ItemTrees → List ℕ
  doubles_among no_items = []
  doubles_among (item line tree others) = doubles_in tree ++ doubles_among others

  pub doubles_behind : List (List ℕ) → EntryTrees → List ℕ
  doubles_behind before no_entries = []
  doubles_behind before (entry line key tree others) = again before line key ++ (doubles_in tree ++ doubles_behind (before ++ key ∷ []) others)
