-- What the flat rows of a description state: at an element, on the way down to it, and at its members
-- (CMSIS-SVD 1.3; that the nearest statement of a property counts is its rule for `registerPropertiesGroup`).
use Rattle.std.specs.Prelude.{ℕ, ◌+◌, ◌*◌, Bool, List, [], ◌∷◌, map, filter, reverse, Option, None, Some, unwrap_or}
use Rattle.std.specs.List.{flat_map, range_with_len, sum_by, zip}
use Rattle.svd_model.specs.declared.props.Props.{Props}
use Rattle.svd_model.specs.Keys.{Key, dim_count, dim_increment, base_address, at_offset, bit_width, register_size, register_access, reset_value, reset_mask, write_kind, value_usage, enumerated_value}
use Rattle.svd_model.specs.Properties.{nearest}
use Rattle.svd_model.specs.Steps.{Step, Kind, same_kind, same_step}
use Rattle.svd_rows.specs.LookUps.{inside, keys_of, ends_with}
use Rattle.svd_rows.specs.Rows.{Row, is_element}
use Rattle.svd_values.specs.declared.schema_word.Access.{Access}
use Rattle.svd_values.specs.declared.schema_word.Usage.{Usage}
use Rattle.svd_values.specs.declared.schema_word.WriteKind.{WriteKind}

-- ---- what one key states

abbrev pub stated_size : Key → Option ℕ
stated_size (register_size n) = Some n
stated_size _ = None

abbrev pub stated_access : Key → Option Access
stated_access (register_access access) = Some access
stated_access _ = None

abbrev pub stated_reset : Key → Option ℕ
stated_reset (reset_value n) = Some n
stated_reset _ = None

abbrev pub stated_mask : Key → Option ℕ
stated_mask (reset_mask n) = Some n
stated_mask _ = None

abbrev pub stated_kind : Key → Option WriteKind
stated_kind (write_kind kind) = Some kind
stated_kind _ = None

abbrev pub stated_base : Key → Option ℕ
stated_base (base_address n) = Some n
stated_base _ = None

abbrev pub stated_offset : Key → Option ℕ
stated_offset (at_offset n) = Some n
stated_offset _ = None

abbrev pub stated_width : Key → Option ℕ
stated_width (bit_width n) = Some n
stated_width _ = None

abbrev pub stated_dim : Key → Option ℕ
stated_dim (dim_count n) = Some n
stated_dim _ = None

abbrev pub stated_increment : Key → Option ℕ
stated_increment (dim_increment n) = Some n
stated_increment _ = None

abbrev pub stated_usage : Key → Option Usage
stated_usage (value_usage usage) = Some usage
stated_usage _ = None

abbrev pub stated_number : Key → Option ℕ
stated_number (enumerated_value n) = Some n
stated_number _ = None

-- what the keys of an element state
unfoldable pub value_of : {A : Type 0} → (Key → Option A) → List Key → Option A
value_of one keys = nearest (map one keys)

-- ---- elements and their keys

-- the keys of the element of this path
abbrev pub keys_at : List (Row Step Key) → List Step → List Key
keys_at all path = keys_of (inside same_step path all)

-- the paths of all elements, in document order; the device's is empty
unfoldable pub paths_of : List (Row Step Key) → List (List Step)
paths_of all = map (λ row. row.path) (filter is_element all)

-- is the step one of this kind?
abbrev pub is_of : Kind → Step → Bool
is_of kind step = same_kind kind step.kind

-- the paths of the elements of a kind, in document order
unfoldable pub paths_of_kind : Kind → List (Row Step Key) → List (List Step)
paths_of_kind kind all = filter (ends_with (is_of kind)) (paths_of all)

-- the paths from the device down to this one, both among them
unfoldable pub ways_down : {S : Type 0} → List S → List (List S)
ways_down [] = [] ∷ []
ways_down (step ∷ path) = [] ∷ map (λ way. step ∷ way) (ways_down path)

-- the keys of the elements from the device down to that of this path
unfoldable pub keys_down : List (Row Step Key) → List Step → List (List Key)
keys_down all path = map (keys_at all) (ways_down path)

-- ---- properties

-- the value at the longest front of the path that states the key
abbrev pub nearest_value : {A : Type 0} → (Key → Option A) → List (List Key) → Option A
nearest_value one down = nearest (map (value_of one) (reverse down))

-- the properties that hold where these are the keys from the device down: of each the nearest
unfoldable pub properties_of : List (List Key) → Props
properties_of down = record {
  size = nearest_value stated_size down;
  access = nearest_value stated_access down;
  reset_value = nearest_value stated_reset down;
  reset_mask = nearest_value stated_mask down;
}

-- ---- members

-- the indexes of the members of an element: those below `dim` for an array, and none for any other
abbrev pub indexes_of : Option ℕ → List (Option ℕ)
indexes_of None = None ∷ []
indexes_of (Some n) = map Some (range_with_len 0 n)

-- one of each, in all ways, those of the first before those of the others
unfoldable pub choices : {A : Type 0} → List (List A) → List (List A)
choices [] = [] ∷ []
choices (some ∷ others) = flat_map (λ x. map (λ chosen. x ∷ chosen) (choices others)) some

-- the members of an element, where these are the keys from the device down to it: an index for each of them
unfoldable pub members_of : List (List Key) → List (List (Option ℕ))
members_of down = choices (map (λ keys. indexes_of (value_of stated_dim keys)) down)

-- how far an element with these keys, and this index, starts behind what is round it: its base or offset, and
-- the index times the step
abbrev pub start_of : List Key → Option ℕ → ℕ
start_of keys index =
    unwrap_or (value_of stated_base keys) 0 + unwrap_or (value_of stated_offset keys) 0 + unwrap_or index 0 * unwrap_or (value_of stated_increment keys) 0

-- the address of a member: the base, all offsets, and each index times its step
unfoldable pub address_of : List (List Key) → List (Option ℕ) → ℕ
address_of down member = sum_by (λ level. start_of level.0 level.1) (zip down member)
