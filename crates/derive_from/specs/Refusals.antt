-- How a fault of deriving is told: with the written names down to its element.
use Rattle.std.specs.Prelude.{◌≡◌, ◌⊎◌, ℕ, List, [], ◌∷◌, map, flat_map, None}
use Rattle.derive_from.specs.declared.fault.DeriveFault.{DeriveFault}
use Rattle.derive_from.specs.declared.fault.DeriveFault.TheVariants as told
use Rattle.derived_rows.specs.Faults.{Fault, missing_parent, derive_cycle, too_deep, too_many, IsFault}
use Rattle.pac_base.specs.declared.path.Step.{Step as Written}
use Rattle.svd_model.specs.Keys.{Key}
use Rattle.svd_model.specs.Steps.{Step, Kind, set, value}
use Rattle.svd_model.specs.declared.counted.Counted.TheVariants.{Elements}
use Rattle.svd_rows.specs.Rows.{Row}

-- the name that an element of a kind adds to a path that is told: sets and values add none, so that their field is told
-- (this project's own rule; a set may have no name)
abbrev pub told_name : Kind → List ℕ → List (List ℕ)
told_name set name = []
told_name value name = []
told_name _ name = name ∷ []

-- the names of a path that is told
unfoldable pub told_names : List Step → List (List ℕ)
told_names path = flat_map (λ step. told_name step.kind step.name) path

-- a step of it; no member of an array is meant
abbrev pub written : List ℕ → Written
written name = record { name = name; index = None }

abbrev pub told_path : List Step → List Written
told_path path = map written (told_names path)

-- the fault as it is told
abbrev pub told_fault : Fault → DeriveFault
told_fault (missing_parent path names) = told.MissingParent (told_path path) names
told_fault (derive_cycle path) = told.DeriveCycle (told_path path)
told_fault (too_deep path) = told.TooDeep (told_path path)
told_fault (too_many count) = told.TooMany Elements count

-- the description is refused so; out of memory says nothing of it
abbrev pub IsRefused : List (Row Step Key) → DeriveFault → Type 0
IsRefused all fault = (fault ≡ told.Memory) ⊎ ((found : Fault) × IsFault all found × (fault ≡ told_fault found))
