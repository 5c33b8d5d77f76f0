-- The tree that a list of rows spells: each row goes to the last element that was begun on its path.
use Rattle.std.specs.Prelude.{List, [], ◌∷◌, ◌++◌}
use Rattle.svd_rows.specs.Forest.{Forest, Tree, leaf, node}
use Rattle.svd_rows.specs.Rows.{Row, Said, element, states}

-- the siblings, where a row has been read
unfoldable pub put : {S K : Type 0} → Forest S K → List S → Said K → Forest S K
put siblings [] said = siblings
put leaf (step ∷ path) said = node step [] leaf leaf
put (node step keys children (node s k c n)) (next ∷ path) said =
    node step keys children (put (node s k c n) (next ∷ path) said)
put (node step keys children leaf) (next ∷ []) element =
    node step keys children (node next [] leaf leaf)
put (node step keys children leaf) (next ∷ []) (states key) = node step (keys ++ key ∷ []) children leaf
put (node step keys children leaf) (next ∷ below ∷ path) said =
    node step keys (put children (below ∷ path) said) leaf

-- the element, where a row has been read
unfoldable pub put_row : {S K : Type 0} → Tree S K → Row S K → Tree S K
put_row tree row = elim row.path [
  | [] ↦ elim row.said [ element ↦ tree | states key ↦ record { keys = tree.keys ++ key ∷ []; below = tree.below } ]
  | step ∷ path ↦ record { keys = tree.keys; below = put tree.below (step ∷ path) row.said }
]

-- the element, where these rows have been read one after the other
unfoldable pub put_rows : {S K : Type 0} → Tree S K → List (Row S K) → Tree S K
put_rows tree [] = tree
put_rows tree (row ∷ rest) = put_rows (put_row tree row) rest

-- the tree that the rows spell
unfoldable pub tree_of : {S K : Type 0} → List (Row S K) → Tree S K
tree_of all = put_rows (record { keys = []; below = leaf }) all
