-- The masks of a register: which bits a write has to leave as 0, or raise to 1, so that it changes no field of one of
-- the kinds that act on ones or on zeros (CMSIS-SVD 1.3, `modifiedWriteValues`; the masks are those of svd2rust's
-- documented API).
use Rattle.std.specs.Prelude.{ℕ, zero, suc, ◌+◌, ◌^◌, Bool, true, false, ◌&&◌, ◌==◌, nat_le, nat_lt, min, List, Option, Some, None, if◌then◌else◌}
use Rattle.std.specs.List.{list_any}
use Rattle.reg_table.specs.declared.row.FieldDim.{FieldDim}
use Rattle.reg_table.specs.declared.row.FieldRow.{FieldRow}
use Rattle.reg_table.specs.Members.{member_at, field_indexes}
use Rattle.svd_values.specs.declared.schema_word.WriteKind.{WriteKind}
use Rattle.svd_values.specs.declared.schema_word.WriteKind.TheVariants.{OneToClear, OneToSet, OneToToggle, ZeroToClear, ZeroToSet, ZeroToToggle}

-- a written one acts on the bit
abbrev pub is_by_one : WriteKind → Bool
is_by_one OneToClear = true
is_by_one OneToSet = true
is_by_one OneToToggle = true
is_by_one _ = false

-- a written zero acts on the bit
abbrev pub is_by_zero : WriteKind → Bool
is_by_zero ZeroToClear = true
is_by_zero ZeroToSet = true
is_by_zero ZeroToToggle = true
is_by_zero _ = false

-- the bit is one of the place's
abbrev pub is_covered : ℕ → ℕ → ℕ → Bool
is_covered offset width i = nat_le offset i && nat_lt i (offset + width)

-- the bit is one of a field's: of one of its members, where it is an array
abbrev pub is_of_field : FieldRow → ℕ → Bool
is_of_field field i = list_any (λ index. is_covered (member_at field index) field.width i) (field_indexes field)

-- the bit is in the mask: a member of a writable field of such a kind covers it
unfoldable pub is_masked : (WriteKind → Bool) → List FieldRow → ℕ → Bool
is_masked of_kind fields i = list_any (λ field. (field.writable && of_kind field.kind) && is_of_field field i) fields

-- the number of so many bits of which just those that pass the test are ones
unfoldable pub number_of_bits : (ℕ → Bool) → ℕ → ℕ
number_of_bits test zero = 0
number_of_bits test (suc n) = (if test n then 2 ^ n else 0) + number_of_bits test n

-- the mask of the fields of such kinds
unfoldable pub mask_of : (WriteKind → Bool) → List FieldRow → ℕ
mask_of of_kind fields = number_of_bits (is_masked of_kind fields) 64

-- the bits of one field
unfoldable pub field_mask : FieldRow → ℕ
field_mask field = number_of_bits (is_of_field field) 64

-- how many members of a field lie at places of their own: with a step of 0 all lie at that of the first
abbrev pub places_of : Option FieldDim → ℕ
places_of None = 1
places_of (Some dim) = if dim.step == 0 then min dim.count 1 else dim.count
