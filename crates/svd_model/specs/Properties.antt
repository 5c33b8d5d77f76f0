-- The properties that hold at a register and at a field (CMSIS-SVD 1.3, `registerPropertiesGroup`; the
-- defaults, the directions that go by the fields, and the cut reset word are this project's own rules).
use Rattle.std.specs.Prelude.{◌≡◌, ◌⊎◌, ℕ, ◌-◌, ◌%◌, ◌^◌, ◌<◌, ◌≤◌, Bool, true, false, if◌then◌else◌, List, [], ◌∷◌, map, Option, Some, None, unwrap_or, bit_and}
use Rattle.std.specs.List.{list_all}
use Rattle.pac_base.specs.Widths.{bits_of, IsLeastWidth}
use Rattle.pac_base.specs.declared.width.Width.{Width}
use Rattle.svd_model.specs.declared.device.Field.{Field}
use Rattle.svd_model.specs.declared.device.Register.{Register}
use Rattle.svd_model.specs.declared.props.Props.{Props}
use Rattle.svd_model.specs.declared.sibling.Sibling.{Sibling}
use Rattle.svd_values.specs.declared.schema_word.Access.{Access}
use Rattle.svd_values.specs.declared.schema_word.Access.TheVariants.{ReadOnly, WriteOnly, ReadWrite, WriteOnce, ReadWriteOnce}
use Rattle.svd_values.specs.declared.schema_word.WriteKind.{WriteKind}
use Rattle.svd_values.specs.declared.schema_word.WriteKind.TheVariants.{Modify}

-- the first that is stated
abbrev pub nearest : {A : Type 0} → List (Option A) → Option A
nearest [] = None
nearest (None ∷ others) = nearest others
nearest (Some x ∷ others) = Some x

-- the properties that hold where these are stated one round the other, the innermost first: of each key the
-- nearest
unfoldable pub holding : List Props → Props
holding all = record {
  size = nearest (map (λ props. props.size) all);
  access = nearest (map (λ props. props.access) all);
  reset_value = nearest (map (λ props. props.reset_value) all);
  reset_mask = nearest (map (λ props. props.reset_mask) all);
}

-- the properties that hold at a register in such properties
abbrev pub register_properties : Register → Props → Props
register_properties register outer = holding (register.props ∷ outer ∷ [])

abbrev pub is_read_only : Option Access → Bool
is_read_only (Some ReadOnly) = true
is_read_only _ = false

abbrev pub is_written_only : Option Access → Bool
is_written_only (Some WriteOnly) = true
is_written_only (Some WriteOnce) = true
is_written_only _ = false

-- what fields state, each under its key
abbrev pub accesses_of : List (Sibling × Field) → List (Option Access)
accesses_of entries = map (λ entry. entry.1.access) entries

-- what the fields of a register state
abbrev pub field_accesses : Register → List (Option Access)
field_accesses register = accesses_of register.fields.entries

-- the access by what the fields state: of one direction where all fields are
abbrev pub access_by_fields : List (Option Access) → Access
access_by_fields [] = ReadWrite
access_by_fields (first ∷ others) =
    if list_all is_read_only (first ∷ others) then ReadOnly else (if list_all is_written_only (first ∷ others) then WriteOnly else ReadWrite)

-- the access that a register takes: the nearest that is stated, else by its fields
abbrev pub access_at : Register → Props → Access
access_at register outer =
    unwrap_or (register_properties register outer).access (access_by_fields (field_accesses register))

abbrev pub can_read : Access → Bool
can_read ReadOnly = true
can_read WriteOnly = false
can_read ReadWrite = true
can_read WriteOnce = false
can_read ReadWriteOnce = true

abbrev pub can_write : Access → Bool
can_write ReadOnly = false
can_write WriteOnly = true
can_write ReadWrite = true
can_write WriteOnce = true
can_write ReadWriteOnce = true

-- a field that states no access has its register's
abbrev pub passes_at : (Access → Bool) → Option Access → Bool
passes_at can None = true
passes_at can (Some access) = can access

-- the size in bits, 32 where none is stated
abbrev pub size_at : Props → ℕ
size_at props = unwrap_or props.size 32

-- the reset word of a register: value and mask, cut to the width that holds its size; 0 where no register has
-- that size
pub record IsResetWord (size value mask reset : ℕ) : Type 0 where
  pub none : (size ≡ 0) ⊎ (64 < size) → reset ≡ 0
  pub word : (width : Width) → 0 < size → size ≤ 64 → IsLeastWidth size width → reset ≡ bit_and (value % 2 ^ bits_of width) (mask % 2 ^ bits_of width)

-- the value after a reset, 0 where none is stated
abbrev pub reset_value_at : Props → ℕ
reset_value_at props = unwrap_or props.reset_value 0

-- the mask of its bits, all ones where none is stated
abbrev pub reset_mask_at : Props → ℕ
reset_mask_at props = unwrap_or props.reset_mask (2 ^ 64 - 1)

-- what a write does to a field: what it states, else what its register does, else it is kept
abbrev pub kind_at : Field → Register → WriteKind
kind_at field register = unwrap_or (nearest (field.kind ∷ register.kind ∷ [])) Modify

-- properties that are held one round the other, element by element, are those of the whole row of elements
abbrev pub PropertiesNest : Type 0
PropertiesNest = (inner : Props) (outer : List Props) → holding (inner ∷ holding outer ∷ []) ≡ holding (inner ∷ outer)
