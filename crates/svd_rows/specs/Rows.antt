-- The flat list of rows that a tree is seen as: this project's own rule. Each element has a row that says
-- that it is there, then one for each key; the rows stand in document order, a parent before its children.
use Rattle.std.specs.Prelude.{Bool, true, false, List, [], ◌∷◌, ◌++◌, map}
use Rattle.svd_rows.specs.Forest.{Forest, Tree, leaf, node}

-- what a row says: that its element is there, or one key of it with its value
pub data Said (K : Type 0) : Type 0 where
  element : Said K
  states : (key : K) → Said K

-- a row: the steps from the device down to its element, and what it says
pub record Row (S K : Type 0) : Type 0 where
  pub path : List S
  pub said : Said K

-- the rows of an element itself, seen from itself
unfoldable pub own : {S K : Type 0} → List K → List (Row S K)
own keys = record { path = []; said = element } ∷ map (λ key. record { path = []; said = states key }) keys

-- the row as it is seen from one step further up
unfoldable pub under : {S K : Type 0} → S → Row S K → Row S K
under step row = record { path = step ∷ row.path; said = row.said }

-- the row as it is seen from the start of a path
unfoldable pub under_path : {S K : Type 0} → List S → Row S K → Row S K
under_path path row = record { path = path ++ row.path; said = row.said }

-- the rows of siblings: those of the first, which are its own and those of the elements below it, then
-- those of the others
unfoldable pub forest_rows : {S K : Type 0} → Forest S K → List (Row S K)
forest_rows leaf = []
forest_rows (node step keys children siblings) =
    map (under step) (own keys ++ forest_rows children) ++ forest_rows siblings

-- the rows of an element and of all below it, seen from itself
unfoldable pub rows : {S K : Type 0} → Tree S K → List (Row S K)
rows tree = own tree.keys ++ forest_rows tree.below

-- does the row say that its element is there?
unfoldable pub is_element : {S K : Type 0} → Row S K → Bool
is_element row = elim row.said [ element ↦ true | states key ↦ false ]
