-- Why a description isn't derived: the first element whose source is missing; then the first on a circle; then the first
-- peripheral below which elements nest too deep; then too many elements. The limits are this project's own.
use Rattle.std.specs.Prelude.{◌≡◌, ℕ, ◌≤◌, ◌<◌, nat_lt, List, length, take, Option, None, Some, option_map}
use Rattle.std.specs.List.{find}
use Rattle.derived_rows.specs.Dependence.{HasNoCircle, IsFirstOnCircle, deriving_paths}
use Rattle.derived_rows.specs.Deriving.{derived_rows}
use Rattle.derived_rows.specs.Sources.{source_names, source_of}
use Rattle.pac_base.specs.declared.path.Step.{Step as Written}
use Rattle.std.specs.Prelude.{is_none}
use Rattle.svd_model.specs.Counting.{told_count}
use Rattle.svd_model.specs.Facts.{element_limit, elements_of}
use Rattle.svd_model.specs.Keys.{Key}
use Rattle.svd_model.specs.Stating.{paths_of}
use Rattle.svd_model.specs.Steps.{Step}
use Rattle.svd_rows.specs.Rows.{Row}

-- the first element, in document order, that states a source and has none
unfoldable pub first_missing : List (Row Step Key) → Option (List Step)
first_missing all = find (λ path. is_none (source_of all path)) (deriving_paths all)

-- how many steps a derived path may have; those of fields, sets and values count too
abbrev pub step_limit : ℕ
step_limit = 64

-- the first peripheral below which a derived path has more steps
unfoldable pub first_deep : List (Row Step Key) → Option (List Step)
first_deep all = option_map (take 1) (find (λ path. nat_lt step_limit (length path)) (paths_of (derived_rows all)))

-- a fault, with the path of its element, or with the count
pub data Fault : Type 0 where
  missing_parent : (path : List Step) (names : List Written) → Fault
  derive_cycle : (path : List Step) → Fault
  too_deep : (path : List Step) → Fault
  too_many : (count : ℕ) → Fault

-- each source is there, and no circle stands
pub record IsOrdered (all : List (Row Step Key)) : Type 0 where
  pub sources : first_missing all ≡ None
  pub no_circle : HasNoCircle all

-- what the first fault of a description is
abbrev pub IsFault : List (Row Step Key) → Fault → Type 0
IsFault all (missing_parent path names) = (first_missing all ≡ Some path) × (source_names all path ≡ Some names)
IsFault all (derive_cycle path) = (first_missing all ≡ None) × IsFirstOnCircle all path
IsFault all (too_deep path) = IsOrdered all × (first_deep all ≡ Some path)
IsFault all (too_many count) =
    IsOrdered all × (first_deep all ≡ None) × (element_limit < elements_of (derived_rows all)) × (count ≡ told_count (elements_of (derived_rows all)))

-- no fault stands
pub record IsFaultless (all : List (Row Step Key)) : Type 0 where
  pub ordered : IsOrdered all
  pub shallow : first_deep all ≡ None
  pub few : elements_of (derived_rows all) ≤ element_limit
