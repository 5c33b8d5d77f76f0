-- Paths of elements, and which rows stand at or below one: a path is read step by step, as a chain of
-- tests (the patterns of a patch, or the steps of one path).
use Rattle.std.specs.Prelude.{◌≡◌, Bool, true, false, ◌&&◌, List, [], ◌∷◌, map}
use Rattle.svd_rows.specs.Rows.{Row}

-- the test tells whether two steps are the same
pub record IsSame {S : Type 0} (same : S → S → Bool) : Type 0 where
  pub itself : (step : S) → same step step ≡ true
  pub alone : (step other : S) → same step other ≡ true → step ≡ other

-- the first steps of the path pass the tests, one by one
unfoldable pub begins : {S : Type 0} → List (S → Bool) → List S → Bool
begins [] path = true
begins (test ∷ tests) [] = false
begins (test ∷ tests) (step ∷ path) = test step && begins tests path

-- the steps of the path pass the tests, one by one, and are as many
unfoldable pub fits : {S : Type 0} → List (S → Bool) → List S → Bool
fits [] [] = true
fits [] (step ∷ path) = false
fits (test ∷ tests) [] = false
fits (test ∷ tests) (step ∷ path) = test step && fits tests path

-- the tests that just this path passes
abbrev pub exactly : {S : Type 0} → (S → S → Bool) → List S → List (S → Bool)
exactly same path = map same path

-- the row speaks of the element of this path, or of one below it
abbrev pub is_within : {S K : Type 0} → List (S → Bool) → Row S K → Bool
is_within tests row = begins tests row.path

-- the row speaks of the element of this path itself
abbrev pub is_at : {S K : Type 0} → List (S → Bool) → Row S K → Bool
is_at tests row = fits tests row.path
