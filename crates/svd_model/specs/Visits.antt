-- A description's elements in document order, each with what the flat rows tell of it: its path, the keys from the
-- device down to it, and the rows at and below it; and the same by a walk of the tree.
use Rattle.std.specs.Prelude.{◌≡◌, List, [], ◌∷◌, ◌++◌, map}
use Rattle.svd_model.specs.Keys.{Key}
use Rattle.svd_model.specs.Stating.{paths_of, keys_down}
use Rattle.svd_model.specs.Steps.{Step, same_step}
use Rattle.svd_rows.specs.Elements.{IsDistinct}
use Rattle.svd_rows.specs.Forest.{Forest, Tree, leaf, node}
use Rattle.svd_rows.specs.LookUps.{inside}
use Rattle.svd_rows.specs.Rows.{Row, rows}

-- an element: its path, the keys of the elements from the device down to it, and its rows, seen from itself
pub record Visit : Type 0 where
  pub path : List Step
  pub down : List (List Key)
  pub own : List (Row Step Key)

-- what the flat rows tell of the element of a path
abbrev pub visit_at : List (Row Step Key) → List Step → Visit
visit_at all path = record { path = path; down = keys_down all path; own = inside same_step path all }

-- the elements that the flat rows tell, in document order
unfoldable pub visits_of : List (Row Step Key) → List Visit
visits_of all = map (visit_at all) (paths_of all)

-- the element with this step and these keys and children, whose parent has this path and these keys down to it
abbrev pub visit_below : List Step → List (List Key) → Step → List Key → Forest Step Key → Visit
visit_below path down step keys children = record {
  path = path ++ step ∷ [];
  down = down ++ keys ∷ [];
  own = rows (record { keys = keys; below = children });
}

-- siblings and all below them, where their parent has this path and these keys down to it
unfoldable pub visits : List Step → List (List Key) → Forest Step Key → List Visit
visits path down leaf = []
visits path down (node step keys children siblings) =
    visit_below path down step keys children ∷ (visits (path ++ step ∷ []) (down ++ keys ∷ []) children ++ visits path down siblings)

-- the rows of a tree tell its elements as a walk of the tree meets them
abbrev pub RowsTellVisits : Type 0
RowsTellVisits =
    (tree : Tree Step Key) → IsDistinct same_step tree.below → visits_of (rows tree) ≡ record { path = []; down = tree.keys ∷ []; own = rows tree } ∷ visits [] (tree.keys ∷ []) tree.below
