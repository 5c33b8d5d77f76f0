-- What holds of flat rows.
use Rattle.std.specs.Prelude.{◌≡◌, ℕ, ◌≤◌, Bool, true, not, ◌&&◌, List, [], ◌∷◌, length}
use Rattle.std.specs.List.{AllByRecursion}
use Rattle.derived_rows.specs.Dependence.{IsAmong, IsOnCircle, HasNoCircle, deriving_paths}
use Rattle.derived_rows.specs.Deriving.{derived_by, derived_at, derived_rows}
use Rattle.derived_rows.specs.Faults.{Fault, IsFault, IsFaultless}
use Rattle.svd_model.specs.Keys.{Key}
use Rattle.svd_model.specs.Stating.{paths_of, ways_down}
use Rattle.svd_model.specs.Steps.{Step, set, same_kind, same_step}
use Rattle.svd_rows.specs.Elements.{IsDistinct}
use Rattle.svd_rows.specs.Forest.{Tree}
use Rattle.svd_rows.specs.Rows.{Row, rows}

-- Where no element is on a circle, levels are never used up: with as many as there are elements, each element comes to
-- what it takes from those on which it depends, as they come to with as many levels.
abbrev pub LevelsAreEnough : Type 0
LevelsAreEnough =
    (all : List (Row Step Key)) → HasNoCircle all → (levels : ℕ) → length (paths_of all) ≤ levels → (path : List Step) → IsAmong (paths_of all) path
    → derived_at all levels path ≡ derived_by all (derived_at all levels) path

-- an element on a circle that states no source has another on its circle that does: where none of these is on one, no
-- element is
abbrev pub CirclesDerive : Type 0
CirclesDerive =
    (all : List (Row Step Key)) → AllByRecursion (λ path. IsOnCircle all path → ⊥) (deriving_paths all) → HasNoCircle all

-- a description in which no element states a source derives to itself
abbrev pub NothingDerives : Type 0
NothingDerives =
    (tree : Tree Step Key) → IsDistinct same_step tree.below → deriving_paths (rows tree) ≡ [] → derived_rows (rows tree) ≡ rows tree

-- the elements on the way down to a path are there, that of the path among them
abbrev pub IsWhole : List (Row Step Key) → List Step → Type 0
IsWhole all path = AllByRecursion (λ way. IsAmong (paths_of all) way) (ways_down path)

-- no step of the path but its last one is a set: it isn't that of an enumerated value
unfoldable pub is_outside_sets : List Step → Bool
is_outside_sets [] = true
is_outside_sets (step ∷ []) = true
is_outside_sets (step ∷ next ∷ path) = not (same_kind set step.kind) && is_outside_sets (next ∷ path)

-- Deriving keeps the paths of peripherals, clusters, registers, fields and sets. An enumerated value may get another
-- place among those of its set.
abbrev pub PathsAreKept : Type 0
PathsAreKept =
    (all : List (Row Step Key)) → HasNoCircle all → (path : List Step) → IsWhole all path → is_outside_sets path ≡ true → IsAmong (paths_of (derived_rows all)) path

-- a description has one first fault at most, and none where it is faultless
pub record HasOneFault (all : List (Row Step Key)) : Type 0 where
  pub one : (fault other : Fault) → IsFault all fault → IsFault all other → fault ≡ other
  pub none : (fault : Fault) → IsFaultless all → IsFault all fault → ⊥
