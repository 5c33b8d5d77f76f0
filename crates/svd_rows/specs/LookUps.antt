-- What a flat list of rows tells of an element: what stands at or below its path, its keys, its children.
use Rattle.std.specs.Prelude.{Bool, false, ◌&&◌, List, [], ◌∷◌, map, filter, filter_map, length, drop, Option, None, Some}
use Rattle.svd_rows.specs.Paths.{exactly, is_within, is_at}
use Rattle.svd_rows.specs.Rows.{Row, Said, element, states, is_element}

-- the row as it is seen from this many steps further down
abbrev pub seen_below : {S K : Type 0} → List S → Row S K → Row S K
seen_below path row = record { path = drop (length path) row.path; said = row.said }

-- the rows at and below the element of this path, seen from the element
unfoldable pub inside : {S K : Type 0} → (S → S → Bool) → List S → List (Row S K) → List (Row S K)
inside same path all = map (seen_below path) (filter (is_within (exactly same path)) all)

-- the key that stands at the end of an empty path
unfoldable pub top_key : {S K : Type 0} → List S → Said K → Option K
top_key [] element = None
top_key [] (states key) = Some key
top_key (step ∷ path) said = None

-- the step of the child whose first row this is
unfoldable pub child_step : {S K : Type 0} → List S → Said K → Option S
child_step [] said = None
child_step (step ∷ []) element = Some step
child_step (step ∷ []) (states key) = None
child_step (step ∷ next ∷ path) said = None

-- the keys of the element from which the rows are seen, in their order
unfoldable pub keys_of : {S K : Type 0} → List (Row S K) → List K
keys_of all = filter_map (λ row. top_key row.path row.said) all

-- the steps of its children, in document order
unfoldable pub children_of : {S K : Type 0} → List (Row S K) → List S
children_of all = filter_map (λ row. child_step row.path row.said) all

-- the paths of the elements whose steps pass the tests one by one, in document order
unfoldable pub element_paths : {S K : Type 0} → List (S → Bool) → List (Row S K) → List (List S)
element_paths tests all = map (λ row. row.path) (filter (λ row. is_element row && is_at tests row) all)

-- the last step of the path passes the test
unfoldable pub ends_with : {S : Type 0} → (S → Bool) → List S → Bool
ends_with test [] = false
ends_with test (step ∷ []) = test step
ends_with test (step ∷ next ∷ path) = ends_with test (next ∷ path)

-- the row says that an element is there whose step passes the test
abbrev pub is_element_of : {S K : Type 0} → (S → Bool) → Row S K → Bool
is_element_of test row = is_element row && ends_with test row.path
