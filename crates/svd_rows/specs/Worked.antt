-- A small tree with its rows beside it, and what edits leave of them: steps and keys are numbers here.
use Rattle.std.specs.Prelude.{◌≡◌, ℕ, nat_eq, List, [], ◌∷◌, refl}
use Rattle.svd_rows.specs.Forest.{Tree, leaf, node}
use Rattle.svd_rows.specs.Paths.{begins}
use Rattle.svd_rows.specs.RowEdits.{some_pass, added, without}
use Rattle.svd_rows.specs.Rows.{Row, Said, element, states, own, under, forest_rows, rows}

-- an element with the key 9, a child 1 with the keys 5 and 6 whose child is 3, and a child 2
abbrev small : Tree ℕ ℕ
small = record { keys = 9 ∷ []; below = node 1 (5 ∷ 6 ∷ []) (node 3 [] leaf leaf) (node 2 [] leaf leaf) }

abbrev row : List ℕ → Said ℕ → Row ℕ ℕ
row path said = record { path = path; said = said }

pub rows-small : rows small ≡ row [] element ∷ row [] (states 9) ∷ row (1 ∷ []) element ∷ row (1 ∷ []) (states 5) ∷ row (1 ∷ []) (states 6) ∷ row (1 ∷ 3 ∷ []) element ∷ row (2 ∷ []) element ∷ []
unfolding rows own under forest_rows
rows-small = refl

-- without the child 1
pub without-small : without (nat_eq 1 ∷ []) (rows small) ≡ row [] element ∷ row [] (states 9) ∷ row (2 ∷ []) element ∷ []
unfolding rows own under forest_rows without begins
without-small = refl

-- an element 4 after all rows of the child 1
pub added-small : added (λ r. begins (nat_eq 1 ∷ []) r.path) (row (1 ∷ 4 ∷ []) element ∷ []) (rows small) ≡ row [] element ∷ row [] (states 9) ∷ row (1 ∷ []) element ∷ row (1 ∷ []) (states 5) ∷ row (1 ∷ []) (states 6) ∷ row (1 ∷ 3 ∷ []) element ∷ row (1 ∷ 4 ∷ []) element ∷ row (2 ∷ []) element ∷ []
unfolding rows own under forest_rows added some_pass begins
added-small = refl
