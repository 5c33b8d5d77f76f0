-- What each typed state of a device says of it. CMSIS-SVD 1.3 gives the forms; the bounds and limits are this
-- project's own.
use Rattle.std.specs.Prelude.{◌≡◌, ◌≢◌, ◌⊎◌, ℕ, ◌^◌, ◌<◌, ◌≤◌, Bool, true, false, ◌&&◌, ◌||◌, nat_le, List, [], filter, length, ⊤, IsTrue}
use Rattle.std.specs.List.{AllByRecursion, list_all, list_any, sum_by}
use Rattle.pac_base.specs.Names.{IsWord, IsArrayName}
use Rattle.svd_model.specs.declared.device.Device.{Device}
use Rattle.svd_model.specs.Checking.{loose_faults}
use Rattle.svd_model.specs.Keys.{Key, derived_from, dim_count, dim_index, base_address, at_offset, bit_width}
use Rattle.svd_model.specs.Stating.{keys_down, members_of, paths_of_kind}
use Rattle.svd_model.specs.Steps.{Step, Kind, peripheral, cluster, register, field, set, value, same_key}
use Rattle.svd_model.specs.Trees.{device_tree, device_rows}
use Rattle.svd_rows.specs.Elements.{IsDistinct, Every, count}
use Rattle.svd_rows.specs.Forest.{Tree}
use Rattle.svd_rows.specs.LookUps.{is_element_of}
use Rattle.svd_rows.specs.Rows.{Row, rows}
use Rattle.svd_values.specs.declared.index.DimIndex.{DimIndex}
use Rattle.svd_values.specs.declared.index.DimIndex.TheVariants.{Numbers, Letters, Words}

-- how many peripherals, clusters, registers, fields and enumerated values there may be
abbrev pub element_limit : ℕ
element_limit = 1048576

-- peripherals, clusters, registers, fields and enumerated values are counted, and sets aren't
abbrev pub is_counted : Step → Bool
is_counted step = counts step.kind
  where
    counts : Kind → Bool
    counts set = false
    counts _ = true

-- two letters of one case, the first not behind the last
abbrev pub IsLetterRange : ℕ → ℕ → Type 0
IsLetterRange first last = (first ≤ last) × (((65 ≤ first) × (last ≤ 90)) ⊎ ((97 ≤ first) × (last ≤ 122)))

-- an index list that a text gives: a range that doesn't fall, or words of at least one byte
abbrev pub IsIndex : DimIndex → Type 0
IsIndex (Numbers first last) = first ≤ last
IsIndex (Letters first last) = IsLetterRange first last
IsIndex (Words words) = (words ≢ []) × AllByRecursion (λ word. IsWord word × (word ≢ [])) words

-- the name of an enumerated value: 1 to 255 bytes of printable ASCII
abbrev pub IsValueName : List ℕ → Type 0
IsValueName name = (1 ≤ length name) × (length name ≤ 255) × (list_all (λ byte. nat_le 32 byte && nat_le byte 126) name ≡ true)

-- the value of a key is within these bounds
abbrev pub IsBounded : ℕ → Key → Type 0
IsBounded limit (base_address n) = n < limit
IsBounded limit (at_offset n) = n < limit
IsBounded limit (bit_width n) = n ≤ 2 ^ 64
IsBounded limit _ = ⊤

-- an index list is one that a text gives
abbrev pub IsIndexed : Key → Type 0
IsIndexed (dim_index index) = IsIndex index
IsIndexed _ = ⊤

abbrev pub is_offset : Key → Bool
is_offset (at_offset n) = true
is_offset _ = false

abbrev pub is_derived : Key → Bool
is_derived (derived_from path) = true
is_derived _ = false

abbrev pub is_dim : Key → Bool
is_dim (dim_count n) = true
is_dim _ = false

-- a fact of each kind's names and keys: numbers are 0 outside sets and values, values are named in their
-- form, and a field passes the test
abbrev pub HasForm : (List Key → Type 0) → Step → List Key → Type 0
HasForm OfField step keys = at step.kind
  where
    at : Kind → Type 0
    at field = (step.number ≡ 0) × OfField keys
    at set = ⊤
    at value = IsValueName step.name
    at _ = step.number ≡ 0

-- a field states its offset, or from which field it is derived
abbrev pub IsPlacedOrDerived : List Key → Type 0
IsPlacedOrDerived keys = list_any (λ key. is_offset key || is_derived key) keys ≡ true

-- a field states its offset
abbrev pub IsPlaced : List Key → Type 0
IsPlaced keys = list_any is_offset keys ≡ true

-- what holds of each element of a description before unfolding
pub record IsElement (OfField : List Key → Type 0) (step : Step) (keys : List Key) : Type 0 where
  pub form : HasForm OfField step keys
  pub bounded : AllByRecursion (IsBounded (2 ^ 64)) keys
  pub indexed : AllByRecursion IsIndexed keys

-- a tree before unfolding: siblings are told apart by their names alone, and there aren't too many elements
pub record IsFolded (OfField : List Key → Type 0) (tree : Tree Step Key) : Type 0 where
  pub distinct : IsDistinct same_key tree.below
  pub elements : Every (IsElement OfField) tree.below
  pub few : count is_counted tree.below ≤ element_limit

-- a device that was described, and patched or not: each field has an offset or a source
abbrev pub IsDescribed : Device → Type 0
IsDescribed device = IsFolded IsPlacedOrDerived (device_tree device)

-- a device in which deriving is done: each field has an offset
abbrev pub IsDerived : Device → Type 0
IsDerived device = IsFolded IsPlaced (device_tree device)

-- a dimension that an array keeps
abbrev pub IsArrayDim : Key → Type 0
IsArrayDim (dim_count n) = (1 ≤ n) × (n ≤ 65536)
IsArrayDim _ = ⊤

-- an element that states `dim` is an array of clusters, registers or fields, and no other name holds the mark `%s`
abbrev pub IsArrayOrPlain : Step → List Key → Type 0
IsArrayOrPlain step keys = at step.kind
  where
    marked : Type 0
    marked = (IsTrue (list_any is_dim keys) × IsArrayName step.name) ⊎ ((list_any is_dim keys ≡ false) × IsWord step.name)

    plain : Type 0
    plain = (list_any is_dim keys ≡ false) × IsWord step.name

    at : Kind → Type 0
    at peripheral = plain
    at cluster = marked
    at register = marked
    at field = marked × IsPlaced keys
    at set = ⊤
    at value = IsValueName step.name

-- what holds of each element after unfolding: members may begin past 2^64 before that is refused
pub record IsUnfoldedElement (step : Step) (keys : List Key) : Type 0 where
  pub form : IsArrayOrPlain step keys
  pub members : AllByRecursion IsArrayDim keys
  pub bounded : AllByRecursion (IsBounded (2 ^ 80)) keys

-- ---- how much a description is, where each list is unfolded: this project's own limits

-- how many registers, fields and enumerated values there may be with every member of an array: the fields of each
-- member of a register, and the values of each member of a field
abbrev pub register_limit : ℕ
register_limit = 262144

abbrev pub field_limit : ℕ
field_limit = 524288

abbrev pub value_limit : ℕ
value_limit = 1048576

-- the peripherals, clusters, registers, fields and enumerated values of a description: an array is one of them
unfoldable pub elements_of : List (Row Step Key) → ℕ
elements_of all = length (filter (is_element_of is_counted) all)

-- the elements of a kind with every member: what stands in an array counts as often as the array has members
unfoldable pub members_in : Kind → List (Row Step Key) → ℕ
members_in kind all = sum_by (λ path. length (members_of (keys_down all path))) (paths_of_kind kind all)

-- there are no more of each than there may be
pub record IsFew (all : List (Row Step Key)) : Type 0 where
  pub elements : elements_of all ≤ element_limit
  pub registers : members_in register all ≤ register_limit
  pub fields : members_in field all ≤ field_limit
  pub values : members_in value all ≤ value_limit

-- a tree in which each list is unfolded
pub record IsUnfoldedTree (tree : Tree Step Key) : Type 0 where
  pub distinct : IsDistinct same_key tree.below
  pub elements : Every IsUnfoldedElement tree.below
  pub few : IsFew (rows tree)

-- a device in which each list is unfolded
abbrev pub IsUnfolded : Device → Type 0
IsUnfolded device = IsUnfoldedTree (device_tree device)

-- a device in which each list is unfolded, and in which checking finds no fault but overlaps
pub record IsChecked (device : Device) : Type 0 where
  pub unfolded : IsUnfolded device
  pub faultless : loose_faults (device_rows device) ≡ []
