-- Children by their numbers, and indexes of their names.
use Rattle.std.specs.Prelude.{◌≡◌, ℕ, List, [], ◌∷◌, map, get_or, Option, None, Some, is_some, if◌then◌else◌, unwrap_or}
use Rattle.std.specs.List.{list_any}
use Rattle.std.specs.Map.{lookup}
use Rattle.std.specs.Str.{bytes_eq}
use Rattle.std.specs.declared.hash.FoldHasher.{FoldHasher}
use Rattle.std.specs.declared.hash.BuildHasherDefault.{BuildHasherDefault}
use Rattle.indexmap.specs.IndexMap.{IndexMap}
use Rattle.derive_build.specs.declared.names.Spelled.{Spelled}
use Rattle.derive_build.specs.declared.own.Own.{Own}
use Rattle.derive_build.specs.Nodes.{Node, own_node}
use Rattle.derived_graph.specs.Graphs.{Child}
use Rattle.derived_rows.specs.Merging.{merged, sets_of}
use Rattle.svd_model.specs.Steps.{Step, Kind, value, field}

-- what stands for an element that isn't there
abbrev pub no_node : Node
no_node = record { kind = None; name = []; number = 0; keys = [] }

-- the element of a number
abbrev pub node_at : List Own → ℕ → Node
node_at owns e = get_or (map own_node owns) e no_node

-- its step; the device, which is no child, has none of its own
abbrev pub step_by : Node → Step
step_by node = record { kind = unwrap_or node.kind value; name = node.name; number = node.number }

-- a child of a number
abbrev pub child_of : List Own → ℕ → Child
child_of owns e = (step_by (node_at owns e), e)

abbrev pub children_of : List Own → List ℕ → List Child
children_of owns numbers = map (child_of owns) numbers

-- what children there are in place of the source's, but for the numbers of sets and values: the own sets of a field,
-- where there are any, stand in the place of all of its source's
abbrev pub plain_by : Option Kind → List Child → List Child → List Child
plain_by (Some field) source own = sets_of source own
plain_by kind source own = merged source own

-- ---- indexes of names

abbrev pub names_in : IndexMap Spelled ℕ (BuildHasherDefault FoldHasher) → List (List ℕ × ℕ)
names_in held = map (λ entry. (entry.0.name.now, entry.1)) held.entries

-- the number of the first child of this name
unfoldable pub first_named : List Child → List ℕ → Option ℕ
first_named [] text = None
first_named (child ∷ others) text = if bytes_eq text child.0.name then Some child.1 else first_named others text

-- the index holds the first child of each name
abbrev pub HoldsFirst : List Child → List (List ℕ × ℕ) → Type 0
HoldsFirst children index = (text : List ℕ) → lookup (bytes_eq text) index ≡ first_named children text

-- the index holds the names of these children
abbrev pub HoldsNames : List Child → List (List ℕ × ℕ) → Type 0
HoldsNames children index = (text : List ℕ) → is_some (lookup (bytes_eq text) index) ≡ list_any (λ (child : Child). bytes_eq text child.0.name) children
