-- What block text means, as plain data: nothing, a scalar, a list of items and a mapping of entries, each item and entry with its line
-- (YAML's null, scalar, sequence and mapping).
use Rattle.std.specs.Prelude.{ℕ, List, [], ◌∷◌}

mutual
  pub data Tree : Type 0 where
    nothing : Tree
    scalar : List ℕ → Tree
    list : ItemTrees → Tree
    mapping : EntryTrees → Tree

  -- a line, what stands there, and the other items
  pub data ItemTrees : Type 0 where
    no_items : ItemTrees
    item : ℕ → Tree → ItemTrees → ItemTrees

  -- a line, a key, its value, and the other entries
  pub data EntryTrees : Type 0 where
    no_entries : EntryTrees
    entry : ℕ → List ℕ → Tree → EntryTrees → EntryTrees

-- items and entries, made of their lists
abbrev pub items_of : List (ℕ × Tree) → ItemTrees
items_of [] = no_items
items_of (first ∷ others) = item first.0 first.1 (items_of others)

abbrev pub entries_of : List (ℕ × List ℕ × Tree) → EntryTrees
entries_of [] = no_entries
entries_of (first ∷ others) = entry first.0 first.1 first.2 (entries_of others)

-- and their lists
abbrev pub item_list : ItemTrees → List (ℕ × Tree)
item_list no_items = []
item_list (item line tree others) = (line, tree) ∷ item_list others

abbrev pub entry_list : EntryTrees → List (ℕ × List ℕ × Tree)
entry_list no_entries = []
entry_list (entry line key tree others) = (line, key, tree) ∷ entry_list others
