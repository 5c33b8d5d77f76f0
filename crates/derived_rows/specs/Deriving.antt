-- What deriving makes of the flat rows of a description (CMSIS-SVD 1.3, `derivedFrom`): each element takes from its
-- source what that is after its own deriving, and that of everything within it.
use Rattle.std.specs.Prelude.{ℕ, List, [], ◌∷◌, ◌++◌, map, length, Option, None, Some, option_map}
use Rattle.std.specs.List.{flat_map}
use Rattle.derived_rows.specs.Merging.{is_marked_at, taken, children_by}
use Rattle.derived_rows.specs.Sources.{children_at, kind_at, source_of}
use Rattle.need_order.specs.Levels.{by_levels}
use Rattle.svd_model.specs.Keys.{Key}
use Rattle.svd_model.specs.Stating.{keys_at, paths_of}
use Rattle.svd_model.specs.Steps.{Step, same_step}
use Rattle.svd_rows.specs.LookUps.{inside, keys_of, children_of}
use Rattle.svd_rows.specs.Rows.{Row, own, under}

-- a child with the rows at and below it, seen from itself
abbrev pub Part : Type 0
Part = Step × List (Row Step Key)

-- the children of the element from which the rows are seen
abbrev pub parts_of : List (Row Step Key) → List Part
parts_of all = map (λ child. (child, inside same_step (child ∷ []) all)) (children_of all)

-- the rows of an element with these keys and children
unfoldable pub element_rows : List Key → List Part → List (Row Step Key)
element_rows keys children = own keys ++ flat_map (λ child. map (under child.0) child.1) children

-- the element of a path, where its own keys and children are these, and these the rows of its source, if it has one
abbrev pub with_source : List Step → List Key → List Part → Option (List (Row Step Key)) → List (Row Step Key)
with_source path keys children None = element_rows keys children
with_source path keys children (Some source) =
    element_rows (taken (is_marked_at path) keys (keys_of source)) (children_by (kind_at path) (parts_of source) children)

-- the children of the element of a path, where it is told what each element comes to
abbrev pub own_parts : List (Row Step Key) → (List Step → List (Row Step Key)) → List Step → List Part
own_parts all derived path = map (λ child. (child, derived (path ++ child ∷ []))) (children_at all path)

-- the rows at and below the element of a path after deriving, where it is told what each element on which it depends
-- comes to
unfoldable pub derived_by : List (Row Step Key) → (List Step → List (Row Step Key)) → List Step → List (Row Step Key)
derived_by all derived path =
    with_source path (keys_at all path) (own_parts all derived path) (option_map derived (source_of all path))

-- the same, where so many levels may still be gone down: at none left there are no rows
abbrev pub derived_at : List (Row Step Key) → ℕ → List Step → List (Row Step Key)
derived_at all = by_levels (derived_by all) []

-- the rows of a description after deriving: there are as many levels as elements, the device among them
unfoldable pub derived_rows : List (Row Step Key) → List (Row Step Key)
derived_rows all = derived_at all (length (paths_of all)) []
