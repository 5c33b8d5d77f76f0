-- Building nodes from the last line to the first: runs of items and of entries at one indent each. What is built is what the runs of lines
-- mean; that is proved.
use Rattle.std.specs.Prelude.{ℕ, List, [], ◌∷◌, map, reverse, ◌==◌, nat_le, nat_lt, if◌then◌else◌}
use Rattle.yaml_block.specs.declared.build.Run.{Run}
use Rattle.yaml_block.specs.declared.build.Run.TheVariants.{Items, Entries}
use Rattle.yaml_block.specs.declared.content.Content.{Content}
use Rattle.yaml_block.specs.declared.content.Content.TheVariants.{Item, Key, Entry}
use Rattle.yaml_block.specs.declared.line.Line.{Line}
use Rattle.yaml_block.specs.Meanings.{value_tree}
use Rattle.yaml_block.specs.Nodes.{items_under, entries_under}
use Rattle.yaml_block.specs.Trees.{Tree, nothing, list, mapping, items_of, entries_of}

pub data Built : Type 0 where
  items_at : ℕ → List (ℕ × Tree) → Built
  entries_at : ℕ → List (ℕ × List ℕ × Tree) → Built

-- a run is kept with its last item or entry first
abbrev pub built_of : Run → Built
built_of (Items indent items) = items_at indent (reverse (items_under items))
built_of (Entries indent entries) = entries_at indent (reverse (entries_under entries))

-- the runs are kept with the first one last
unfoldable pub built_in : List Run → List Built
built_in runs = reverse (map built_of runs)

-- an item joins the run of items at its indent, or begins one
unfoldable pub with_item : ℕ → (ℕ × Tree) → List Built → List Built
with_item indent item [] = items_at indent (item ∷ []) ∷ []
with_item indent item (items_at other items ∷ runs) = if indent == other then items_at indent (item ∷ items) ∷ runs else items_at indent (item ∷ []) ∷ items_at other items ∷ runs
with_item indent item (entries_at other entries ∷ runs) = items_at indent (item ∷ []) ∷ entries_at other entries ∷ runs

-- an entry joins the run of entries at its indent, or begins one
unfoldable pub with_entry : ℕ → (ℕ × List ℕ × Tree) → List Built → List Built
with_entry indent entry [] = entries_at indent (entry ∷ []) ∷ []
with_entry indent entry (items_at other items ∷ runs) = entries_at indent (entry ∷ []) ∷ items_at other items ∷ runs
with_entry indent entry (entries_at other entries ∷ runs) = if indent == other then entries_at indent (entry ∷ entries) ∷ runs else entries_at indent (entry ∷ []) ∷ entries_at other entries ∷ runs

-- what stands behind a key without a value: the run that belongs to it, and the runs behind that
unfoldable pub below : ℕ → List Built → Tree × List Built
below indent [] = (nothing, [])
below indent (items_at other items ∷ runs) = if nat_le indent other then (list (items_of items), runs) else (nothing, items_at other items ∷ runs)
below indent (entries_at other entries ∷ runs) = if nat_lt indent other then (mapping (entries_of entries), runs) else (nothing, entries_at other entries ∷ runs)

abbrev pub with_content : ℕ → ℕ → Content → List Built → List Built
with_content number indent (Item value) runs = with_item indent (number, value_tree number value) runs
with_content number indent (Key key) runs = with_entry indent (number, key, (below indent runs).0) (below indent runs).1
with_content number indent (Entry key value) runs = with_entry indent (number, key, value_tree number value) runs

unfoldable pub with_line : Line → List Built → List Built
with_line line runs = with_content line.number line.indent line.content runs

-- the lines in front of those that were built already
unfoldable pub built_behind : List Line → List Built → List Built
built_behind [] runs = runs
built_behind (line ∷ lines) runs = with_line line (built_behind lines runs)

-- the node of runs that are one mapping or nothing
abbrev pub tree_in : List Built → Tree
tree_in [] = nothing
tree_in (items_at indent items ∷ runs) = nothing
tree_in (entries_at indent entries ∷ runs) = mapping (entries_of entries)
