-- The names of siblings: what a generated crate calls them, and that no two of them are called alike (this project's own rules).
use Rattle.std.specs.Prelude.{ℕ, ◌≡◌, ◌≢◌, ◌≤◌, true, false, List, [], length, map}
use Rattle.std.specs.Str.{bytes_eq}
use Rattle.frag_sem.specs.Modules.{are_distinct_names}
use Rattle.svd_model.specs.Facts.{element_limit}
use Rattle.svd_model.specs.Keys.{Key}
use Rattle.svd_model.specs.Steps.{Step}
use Rattle.svd_rows.specs.Forest.{Forest, steps}
use Rattle.svd_values.specs.AccessorNames.{accessor_name, slot_name_of, without_array_mark}
use Rattle.svd_values.specs.Identifiers.{gap_name, marker_name}
use Rattle.rust_names.specs.Identifiers.{IsIdentifier}
use Rattle.rust_names.specs.PreludeNames.{is_prelude_name}

-- ---- one element

-- The accessor of an element of this written name is no name of the prelude and none of a gap; and an identifier, as written names have a byte.
pub record HasAccessor (name : List ℕ) : Type 0 where
  pub free : is_prelude_name (accessor_name name) ≡ false
  pub no_gap : (number : ℕ) → bytes_eq (accessor_name name) (gap_name number) ≡ false
  pub identifier : name ≢ [] → IsIdentifier (accessor_name name)

-- ---- siblings

-- their accessors, in their order
abbrev pub accessor_names : Forest Step Key → List (List ℕ)
accessor_names siblings = map (λ step. accessor_name step.name) (steps siblings)

-- the marker of a field
abbrev pub marker_of : Step → List ℕ
marker_of step = marker_name (without_array_mark step.name)

-- the markers of fields, and the slots of peripherals
abbrev pub marker_names : Forest Step Key → List (List ℕ)
marker_names fields = map marker_of (steps fields)

abbrev pub slot_names : Forest Step Key → List (List ℕ)
slot_names peripherals = map (λ step. slot_name_of step.name) (steps peripherals)

-- No two siblings have one accessor, and there aren't too many.
pub record AreSiblings (siblings : Forest Step Key) : Type 0 where
  pub names : are_distinct_names (accessor_names siblings) ≡ true
  pub few : length (steps siblings) ≤ element_limit
