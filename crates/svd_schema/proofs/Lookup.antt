-- The value at the number of a row that a look-up finds among numbered rows is what it finds among the rows.
use Rattle.std.proofs.Common.{◌≡◌, ℕ, zero, suc, List, [], ◌∷◌, map, drop, Bool, true, false, cond, refl, Option, Some}
use Rattle.std.specs.Prelude.{slice_get, option_and_then}
use Rattle.std.specs.Map.{lookup}

module _ {R : Type 0} where
  -- the rows' names, each with its number, counted from `at`
  abbrev pub numbered : ℕ → List (List ℕ × R) → List (List ℕ × ℕ)
  numbered at [] = []
  numbered at (row ∷ rows) = (row.0, at) ∷ numbered (suc at) rows

  first_left : (values : List R) (at : ℕ) (value : R) (more : List R) → drop at values ≡ value ∷ more → (slice_get values at ≡ Some value) × (drop (suc at) values ≡ more)
  first_left [] zero value more is = cc
  first_left [] (suc at) value more is = cc
  first_left (first ∷ values) zero value more is = (cc, cc)
  first_left (first ∷ values) (suc at) value more is = first_left values at value more is

  step : (found : Bool) (values : List R) (at : ℕ) (value : R) (rest : Option ℕ) (others : Option R) → slice_get values at ≡ Some value
      → option_and_then (slice_get values) rest ≡ others → option_and_then (slice_get values) (cond found (Some at) rest) ≡ cond found (Some value) others
  step true values at value rest others here more = here
  step false values at value rest others here more = more

  from : (test : List ℕ → Bool) (values : List R) (at : ℕ) (rows : List (List ℕ × R)) → drop at values ≡ map (λ row. row.1) rows
      → option_and_then (slice_get values) (lookup test (numbered at rows)) ≡ lookup test rows
  from test values at [] is = refl
  from test values at (row ∷ rows) is =
      let left = first_left values at row.1 (map (λ other. other.1) rows) is in
      step (test row.0) values at row.1 (lookup test (numbered (suc at) rows)) (lookup test rows) left.0 (from test values (suc at) rows left.1)

  pub located : (test : List ℕ → Bool) (rows : List (List ℕ × R)) → option_and_then (slice_get (map (λ row. row.1) rows)) (lookup test (numbered zero rows)) ≡ lookup test rows
  located test rows = from test (map (λ row. row.1) rows) zero rows refl
