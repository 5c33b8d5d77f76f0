-- Edits of a flat list of rows: what is left out, what is renamed, what is added and where.
use Rattle.std.specs.Prelude.{Bool, true, false, cond, not, ◌&&◌, ◌||◌, ℕ, nat_lt, nat_eq, List, [], ◌∷◌, ◌++◌, map, filter}
use Rattle.svd_rows.specs.Rows.{Row, Said, element, states}
use Rattle.svd_rows.specs.Paths.{is_within, is_at}

-- one of the items passes the test
unfoldable pub some_pass : {X : Type 0} → (X → Bool) → List X → Bool
some_pass test [] = false
some_pass test (x ∷ xs) = test x || some_pass test xs

-- the new items stand after the last item that passes the test; they are left out where none does
unfoldable pub added : {X : Type 0} → (X → Bool) → List X → List X → List X
added test new [] = []
added test new (x ∷ xs) =
    cond (some_pass test xs) (x ∷ added test new xs) (cond (test x) (x ∷ (new ++ xs)) (x ∷ xs))

-- the new items stand in the place of all items that pass the test, where the first of them stood
unfoldable pub exchanged : {X : Type 0} → (X → Bool) → List X → List X → List X
exchanged test new [] = []
exchanged test new (x ∷ xs) =
    cond (test x) (new ++ filter (λ y. not (test y)) xs) (x ∷ exchanged test new xs)

-- the rows without those at or below the elements whose steps pass the tests
unfoldable pub without : {S K : Type 0} → List (S → Bool) → List (Row S K) → List (Row S K)
without tests all = filter (λ row. not (is_within tests row)) all

-- the path with another step behind the steps that pass the tests
unfoldable pub renamed_path : {S : Type 0} → List (S → Bool) → (S → S) → List S → List S
renamed_path tests new [] = []
renamed_path [] new (step ∷ path) = new step ∷ path
renamed_path (test ∷ tests) new (step ∷ path) =
    step ∷ cond (test step) (renamed_path tests new path) path

-- another step in the place of this one, and each other step as it is
abbrev pub other_step : {S : Type 0} → (S → S → Bool) → S → S → S → S
other_step same old new step = cond (same old step) new step

-- the row under another path
abbrev pub moved : {S K : Type 0} → (List S → List S) → Row S K → Row S K
moved new row = record { path = new row.path; said = row.said }

-- does the row state a key of a lower rank, or say that the element is there?
unfoldable pub is_below_rank : {K : Type 0} → (K → ℕ) → ℕ → Said K → Bool
is_below_rank rank n element = true
is_below_rank rank n (states key) = nat_lt (rank key) n

-- does the row state the key of this rank?
unfoldable pub has_rank : {K : Type 0} → (K → ℕ) → ℕ → Said K → Bool
has_rank rank n element = false
has_rank rank n (states key) = nat_eq (rank key) n

-- the rows in which the key of the element at this path has a new value: its row is replaced, or it is
-- added after the rows of lower rank
unfoldable pub with_key : {S K : Type 0} → (S → S → Bool) → (K → ℕ) → List S → K → List (Row S K) → List (Row S K)
with_key same rank path key all =
    added (λ row. is_at (map same path) row && is_below_rank rank (rank key) row.said)
    (record { path = path; said = states key } ∷ [])
    (filter (λ row. not (is_at (map same path) row && has_rank rank (rank key) row.said)) all)
