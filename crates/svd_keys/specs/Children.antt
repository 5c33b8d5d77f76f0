-- The elements in an element by their names (CMSIS-SVD 1.3). Of several elements of one name the first counts.
use Rattle.std.specs.Prelude.{ℕ, List, [], ◌∷◌, ◌++◌, map, filter, find, flat_map, Bool, is_none, is_some, Option, if◌then◌else◌}
use Rattle.std.specs.Str.{bytes_eq}
use Rattle.svd_schema.specs.declared.container.Container.{Container}
use Rattle.svd_schema.specs.Table.{role_of}
use Rattle.svd_text.specs.Tree.{Head, Elements, none, element}
use Rattle.svd_keys.specs.declared.fault.PlacedFault.{PlacedFault}
use Rattle.svd_keys.specs.declared.fault.Fault.TheVariants.{UnknownElement, DoubleElement}
use Rattle.svd_keys.specs.Texts.{name_span}

-- an element with those in it
abbrev pub Tree : Type 0
Tree = Head × Elements

-- the elements of a forest side by side, in their order
unfoldable pub members : Elements → List Tree
members none = []
members (element head children siblings) = (head, children) ∷ members siblings

abbrev pub has_name : List ℕ → Tree → Bool
has_name name tree = bytes_eq tree.0.name name

-- the first element of that name in an element
unfoldable pub child : List ℕ → Tree → Option Tree
child name tree = find (has_name name) (members tree.1)

-- whether an element of that name stands in an element
abbrev pub holds : List ℕ → Tree → Bool
holds name tree = is_some (child name tree)

-- an element that may not stand where it stands
abbrev pub unknown : Tree → PlacedFault
unknown tree = record { at = tree.0.name_at; fault = UnknownElement (name_span tree.0) }

-- an element that stands again
abbrev pub double : Tree → PlacedFault
double tree = record { at = tree.0.name_at; fault = DoubleElement (name_span tree.0) }

-- the one fault where the test passes
abbrev pub when : {X : Type 0} → Bool → X → List X
when test fault = if test then fault ∷ [] else []

-- an element that isn't in the container's row
unfoldable pub unknown_at : Container → Tree → List PlacedFault
unknown_at container tree = when (is_none (role_of container tree.0.name)) (unknown tree)

-- the elements in a container that aren't in its row
unfoldable pub unknown_in : Container → Tree → List PlacedFault
unknown_in container tree = flat_map (unknown_at container) (members tree.1)

-- the elements in a key: none may stand there
unfoldable pub unknown_in_key : Tree → List PlacedFault
unknown_in_key tree = map unknown (members tree.1)

-- the elements in the keys of that name
unfoldable pub unknown_in_keys : List ℕ → Tree → List PlacedFault
unknown_in_keys name tree = flat_map unknown_in_key (filter (has_name name) (members tree.1))

-- of elements of one name each but the first stands again
unfoldable pub doubles : List Tree → List PlacedFault
doubles [] = []
doubles (first ∷ others) = map double others

-- the elements of that name that stand again in an element
unfoldable pub double_of : List ℕ → Tree → List PlacedFault
double_of name tree = doubles (filter (has_name name) (members tree.1))

-- a key stands again, or elements stand in it
unfoldable pub strays : List ℕ → Tree → List PlacedFault
strays name tree = double_of name tree ++ unknown_in_keys name tree
