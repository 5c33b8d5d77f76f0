-- How the peripherals, clusters and registers of a description are named in scripts: each by its slot, and by its accessors with their counts (this project's own rule, after the names that svd2rust gives).
use Rattle.std.specs.Prelude.{ℕ, Bool, ◌||◌, List, [], ◌∷◌, drop, filter, map}
use Rattle.std.specs.List.{zip}
use Rattle.frag_sem.specs.Surfaces.{Step as Accessor}
use Rattle.svd_model.specs.Keys.{Key}
use Rattle.svd_model.specs.Stating.{value_of, stated_dim, is_of}
use Rattle.svd_model.specs.Steps.{Step, peripheral, cluster, register}
use Rattle.svd_model.specs.Visits.{Visit, visits_of}
use Rattle.svd_rows.specs.LookUps.{ends_with}
use Rattle.svd_rows.specs.Rows.{Row}
use Rattle.svd_values.specs.AccessorNames.{accessor_name, slot_name_of}

-- the slot of a peripheral, and the accessors behind it, each with the count of an array, or none
pub record Named : Type 0 where
  pub slot : List ℕ
  pub accessors : List Accessor

-- peripherals, clusters and registers are named; fields and enumerated values have calls on their register
abbrev pub is_named : Step → Bool
is_named step = is_of peripheral step || (is_of cluster step || is_of register step)

-- the accessor of an element with these keys
abbrev pub accessor_of : Step → List Key → Accessor
accessor_of step keys = record { name = accessor_name step.name; count = value_of stated_dim keys }

abbrev pub accessors_on : List Step → List (List Key) → List Accessor
accessors_on path down = map (λ level. accessor_of level.0 level.1) (zip path down)

-- the name of the element of a path, where these are the keys from the device down to it
abbrev pub named : List Step → List (List Key) → Named
named [] down = record { slot = []; accessors = [] }
named (first ∷ path) down = record { slot = slot_name_of first.name; accessors = accessors_on path (drop 2 down) }

-- the peripherals, clusters and registers of a description's flat rows, in document order
unfoldable pub named_visits : List (Row Step Key) → List Visit
named_visits all = filter (λ visit. ends_with is_named visit.path) (visits_of all)

-- their names
unfoldable pub names_of : List (Row Step Key) → List Named
names_of all = map (λ visit. named visit.path visit.down) (named_visits all)
