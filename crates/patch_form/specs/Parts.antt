-- The parts of a value: the text of a scalar, and the entries of a mapping.
use Rattle.std.specs.Prelude.{ℕ, List, Option, Some, None}
use Rattle.yaml_block.specs.Trees.{Tree, EntryTrees, nothing, scalar, list, mapping, no_entries}

-- the text of a scalar
abbrev pub scalar_of : Tree → Option (List ℕ)
scalar_of nothing = None
scalar_of (scalar text) = Some text
scalar_of (list items) = None
scalar_of (mapping inside) = None

-- the entries of a mapping; any other value has none
abbrev pub entries_in : Tree → EntryTrees
entries_in nothing = no_entries
entries_in (scalar text) = no_entries
entries_in (list items) = no_entries
entries_in (mapping inside) = inside
