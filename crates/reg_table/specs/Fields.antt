-- The fields of a register's row (CMSIS-SVD 1.3, `field`): what the flat rows of a field tell of it.
use Rattle.std.specs.Prelude.{ℕ, ◌+◌, ◌*◌, ◌≤◌, Bool, ◌&&◌, List, [], ◌∷◌, Option, Some, None, unwrap_or}
use Rattle.reg_table.specs.Calls.{SetsAreNamed, sets_of, serves_reading, serves_writing, set_calls_of}
use Rattle.reg_table.specs.declared.row.FieldDim.{FieldDim}
use Rattle.reg_table.specs.declared.row.FieldRow.{FieldRow}
use Rattle.reg_table.specs.Members.{IsIndexOf}
use Rattle.svd_model.specs.declared.device.Field.{Field}
use Rattle.svd_model.specs.declared.sibling.Sibling.{Sibling}
use Rattle.svd_model.specs.Keys.{Key}
use Rattle.svd_model.specs.Properties.{nearest, can_read, can_write, passes_at}
use Rattle.svd_model.specs.Stating.{value_of, stated_offset, stated_width, stated_access, stated_kind, stated_dim, stated_increment}
use Rattle.svd_model.specs.Steps.{Step, same_step}
use Rattle.svd_rows.specs.Elements.{IsDistinct}
use Rattle.svd_rows.specs.LookUps.{keys_of}
use Rattle.svd_model.specs.Trees.{field_under, field_tree}
use Rattle.svd_rows.specs.Rows.{Row, rows}
use Rattle.svd_values.specs.AccessorNames.{accessor_name, is_call_name, variant_call_name}
use Rattle.svd_values.specs.declared.schema_word.WriteKind.{WriteKind}
use Rattle.svd_values.specs.declared.schema_word.WriteKind.TheVariants.{Modify}

-- how many bits a field with these keys has
abbrev pub width_in : List Key → ℕ
width_in keys = unwrap_or (value_of stated_width keys) 1

-- what states `dim` is an array, whose members begin `dimIncrement` bits apart, or all at one place where it isn't stated
abbrev pub field_dim : Option ℕ → Option ℕ → Option FieldDim
field_dim None increment = None
field_dim (Some count) increment = Some (record { count = count; step = unwrap_or increment 0 })

-- a field of a register of these directions, whose writes do this where the field doesn't say
unfoldable pub field_row : Bool → Bool → Option WriteKind → (Step × List (Row Step Key)) → FieldRow
field_row readable writable kind part = record {
  name = accessor_name part.0.name;
  offset = unwrap_or (value_of stated_offset (keys_of part.1)) 0;
  width = width_in (keys_of part.1);
  dim = field_dim (value_of stated_dim (keys_of part.1)) (value_of stated_increment (keys_of part.1));
  readable = readable && passes_at can_read (value_of stated_access (keys_of part.1));
  writable = writable && passes_at can_write (value_of stated_access (keys_of part.1));
  kind = unwrap_or (nearest (value_of stated_kind (keys_of part.1) ∷ kind ∷ [])) Modify;
  is_calls = set_calls_of serves_reading is_call_name (width_in (keys_of part.1)) (sets_of part.1);
  set_calls = set_calls_of serves_writing variant_call_name (width_in (keys_of part.1)) (sets_of part.1);
}

-- ---- the same of the declared types

-- a field with its rows
abbrev pub field_part : (Sibling × Field) → (Step × List (Row Step Key))
field_part entry = ((field_under entry).0, rows (field_under entry).1)

-- where a member of a field with this place and this dimension begins, in bits
abbrev pub bit_at : Field → Option ℕ → ℕ
bit_at field index = unwrap_or field.place.offset 0 + unwrap_or index 0 * unwrap_or field.dim.step 0

-- a field has a member, the first and each other lie within so many bits, and its values have names
pub record FieldFits (bits : ℕ) (entry : Sibling × Field) : Type 0 where
  pub some : 1 ≤ unwrap_or entry.1.place.width 1
  pub members : 1 ≤ unwrap_or entry.1.dim.count 1
  pub first : unwrap_or entry.1.place.offset 0 + unwrap_or entry.1.place.width 1 ≤ bits
  pub within : (index : Option ℕ) → IsIndexOf entry.1.dim.count index → bit_at entry.1 index + unwrap_or entry.1.place.width 1 ≤ bits
  pub named : SetsAreNamed entry.1.values.items
  pub distinct : IsDistinct same_step (field_tree entry.1).below
