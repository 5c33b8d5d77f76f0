-- The register table of a description: one row for each member of each register, in document order, where an array
-- member with its content precedes the next member. It speaks of flat rows (CMSIS-SVD 1.3 gives the properties; the
-- order and the cut reset word are this project's own).
use Rattle.std.specs.Prelude.{ℕ, ◌%◌, ◌^◌, Bool, cond, List, [], ◌∷◌, map, filter, fold, length, reverse, drop, set, Option, None, Some, is_some, unwrap_or, bit_and}
use Rattle.std.specs.List.{flat_map, zip, range_with_len}
use Rattle.pac_base.specs.Widths.{bits_of}
use Rattle.reg_table.specs.Calls.{parts}
use Rattle.reg_table.specs.Fields.{field_row}
use Rattle.reg_table.specs.Masks.{is_by_one, is_by_zero, mask_of}
use Rattle.reg_table.specs.declared.row.FieldRow.{FieldRow}
use Rattle.reg_table.specs.declared.row.Row.{Row as TableRow}
use Rattle.reg_table.specs.declared.row.RowPath.{RowPath}
use Rattle.svd_model.specs.declared.props.Props.{Props}
use Rattle.svd_model.specs.Checking.{width_of}
use Rattle.svd_model.specs.Keys.{Key}
use Rattle.svd_model.specs.Properties.{can_read, can_write, access_by_fields, size_at, reset_value_at, reset_mask_at}
use Rattle.svd_model.specs.Stating.{value_of, stated_access, stated_kind, stated_dim, keys_at, paths_of, is_of, properties_of, address_of}
use Rattle.svd_model.specs.Steps.{Step, register, same_step}
use Rattle.svd_model.specs.Visits.{Visit, visit_at}
use Rattle.svd_rows.specs.LookUps.{keys_of, ends_with}
use Rattle.svd_rows.specs.Paths.{exactly, begins}
use Rattle.svd_rows.specs.RowEdits.{exchanged}
use Rattle.svd_rows.specs.Rows.{Row}
use Rattle.svd_values.specs.AccessorNames.{accessor_name, slot_name_of}
use Rattle.svd_values.specs.declared.schema_word.Access.{Access}

-- ---- one register

-- the access of a register in whose place these properties hold: the nearest that is stated, else by its fields
abbrev pub access_of : Props → List (Row Step Key) → Access
access_of props own = unwrap_or props.access (access_by_fields (map (λ part. value_of stated_access (keys_of part.1)) (parts own)))

-- the value after a reset, of which the mask says which bits are defined, cut to so many bits
abbrev pub cut_reset : ℕ → Props → ℕ
cut_reset bits props = bit_and (reset_value_at props % 2 ^ bits) (reset_mask_at props % 2 ^ bits)

-- the fields of a register in whose place these properties hold
abbrev pub fields_of : Props → List (Row Step Key) → List FieldRow
fields_of props own =
    map (field_row (can_read (access_of props own)) (can_write (access_of props own)) (value_of stated_kind (keys_of own))) (parts own)

-- the row of a register with this path and address, in whose place these properties hold, from the rows at and below it
unfoldable pub register_row : RowPath → ℕ → Props → List (Row Step Key) → TableRow
register_row path address props own = record {
  path = path;
  address = address;
  width = width_of (size_at props);
  readable = can_read (access_of props own);
  writable = can_write (access_of props own);
  reset = cut_reset (bits_of (width_of (size_at props))) props;
  one = mask_of is_by_one (fields_of props own);
  zero = mask_of is_by_zero (fields_of props own);
  fields = fields_of props own;
}

-- ---- members

-- A member: the path of its element, and an index or none for the device and for each step of the path.
abbrev pub Member : Type 0
Member = List Step × List (Option ℕ)

-- the accessors that lead to a member: the slot of its peripheral, and then the accessor of each step
unfoldable pub row_path : List Step → List (Option ℕ) → RowPath
row_path [] indexes = record { slot = []; steps = [] }
row_path (first ∷ path) indexes = record {
  slot = slot_name_of first.name;
  steps = map (λ step. record { name = accessor_name step.0.name; index = step.1 }) (zip path (drop 2 indexes));
}

-- no index at any step of the path
abbrev pub no_indexes : List Step → List (Option ℕ)
no_indexes path = None ∷ map (λ step. None) path

-- the paths of arrays, in document order
unfoldable pub array_paths : List (Row Step Key) → List (List Step)
array_paths all = filter (λ path. is_some (value_of stated_dim (keys_at all path))) (paths_of all)

-- the member is one of the element of this path, or of an element below it
abbrev pub is_below : List Step → Member → Bool
is_below path member = begins (exactly same_step path) member.0

-- the member with this index for the element of this path
abbrev pub with_index : List Step → ℕ → Member → Member
with_index path index member = (member.0, set member.1 (length path) (Some index))

-- the members where those of one array, each with its content, stand one after the other in its place
abbrev pub unrolled : List (Row Step Key) → List Member → List Step → List Member
unrolled all members path =
    exchanged (is_below path) (flat_map (λ index. map (with_index path index) (filter (is_below path) members)) (range_with_len 0 (unwrap_or (value_of stated_dim (keys_at all path)) 0))) members

-- all members, in order: each array stands as its members, the inner arrays first
unfoldable pub members_in_order : List (Row Step Key) → List Member
members_in_order all = fold (unrolled all) (map (λ path. (path, no_indexes path)) (paths_of all)) (reverse (array_paths all))

-- ---- the table

-- the row of a member, where its element is a register
unfoldable pub rows_of_member : Visit → List (Option ℕ) → List TableRow
rows_of_member visit indexes =
    cond (ends_with (is_of register) visit.path) (register_row (row_path visit.path indexes) (address_of visit.down indexes) (properties_of visit.down) visit.own ∷ []) []

-- the register table of a description's flat rows
unfoldable pub table_of : List (Row Step Key) → List TableRow
table_of all = flat_map (λ member. rows_of_member (visit_at all member.0) member.1) (members_in_order all)
