-- Worked register tables: the paths and addresses of the rows that the flat rows of a description with arrays give; and what a row says of an array of fields.
use Rattle.std.specs.Prelude.{◌≡◌, ℕ, true, List, [], ◌∷◌, ◌++◌, map, codes, Option, None, Some, refl}
use Rattle.std.specs.Fmt.{digits}
use Rattle.std.specs.List.{flat_map}
use Rattle.pac_base.specs.declared.path.Step.{Step as NamedStep}
use Rattle.reg_table.specs.Calls.{calls_of, first_of_each, parts}
use Rattle.reg_table.specs.Fields.{field_row}
use Rattle.reg_table.specs.Listing.{bits_text, effect_text, field_lines, member_line}
use Rattle.reg_table.specs.Masks.{is_by_one, is_masked, mask_of, number_of_bits}
use Rattle.reg_table.specs.Registers.{array_paths, members_in_order, register_row, row_path, rows_of_member, table_of}
use Rattle.reg_table.specs.declared.row.FieldRow.{FieldRow}
use Rattle.reg_table.specs.declared.row.RowPath.{RowPath}
use Rattle.svd_model.specs.Keys.{Key, base_address, at_offset, bit_width, dim_count, dim_increment, write_kind}
use Rattle.svd_model.specs.Properties.{holding}
use Rattle.svd_model.specs.Stating.{value_of, paths_of, ways_down, keys_down, properties_of, address_of}
use Rattle.svd_model.specs.Steps.{Step, Kind, peripheral, cluster, register, field, same_step}
use Rattle.svd_rows.specs.Forest.{Forest, leaf, node}
use Rattle.svd_rows.specs.LookUps.{inside, top_key, child_step, keys_of, children_of, ends_with}
use Rattle.svd_rows.specs.Paths.{begins}
use Rattle.svd_rows.specs.RowEdits.{exchanged}
use Rattle.svd_rows.specs.Rows.{Row, own, under, forest_rows, rows, is_element}
use Rattle.rust_names.specs.Keywords.{is_keyword}
use Rattle.rust_names.specs.PreludeNames.{is_prelude_name}
use Rattle.svd_values.specs.declared.schema_word.WriteKind.TheVariants.{OneToClear}

abbrev step : Kind → List ℕ → Step
step kind name = record { kind = kind; name = name; number = 0 }

-- the peripheral T at 0x40000000, with these registers and clusters
abbrev in_t : Forest Step Key → List (Row Step Key)
in_t children = rows (record { keys = []; below = node (step peripheral (codes "T")) (base_address 0x40000000 ∷ []) children leaf })

-- so many members of an element, this many bytes apart, from this offset on
abbrev array : ℕ → ℕ → ℕ → List Key
array count increment offset = dim_count count ∷ dim_increment increment ∷ at_offset offset ∷ []

-- a step to a member
abbrev to : List ℕ → Option ℕ → NamedStep
to name index = record { name = name; index = index }

-- a row of T: the steps behind the slot, and the address
abbrev at : List NamedStep → ℕ → (RowPath × ℕ)
at steps address = (record { slot = codes "T"; steps = steps }, address)

-- where each row leads
abbrev places : List (Row Step Key) → List (RowPath × ℕ)
places all = map (λ row. (row.path, row.address)) (table_of all)

-- `CH[%s]`: four registers, 16 bytes apart
pub register_array : places (in_t (node (step register (codes "CH[%s]")) (array 4 16 0) leaf leaf))
    ≡ at (to (codes "ch") (Some 0) ∷ []) 0x40000000
    ∷ at (to (codes "ch") (Some 1) ∷ []) 0x40000010
    ∷ at (to (codes "ch") (Some 2) ∷ []) 0x40000020
    ∷ at (to (codes "ch") (Some 3) ∷ []) 0x40000030
    ∷ []
unfolding table_of members_in_order array_paths rows_of_member row_path register_row parts mask_of number_of_bits is_masked value_of paths_of ways_down keys_down properties_of address_of holding same_step inside top_key child_step keys_of children_of ends_with begins exchanged own under forest_rows rows is_element is_keyword is_prelude_name
register_array = refl

-- `CL[%s]` of two, with `R[%s]` of two in it, and a plain register behind it: a member of the cluster with all in it
-- precedes the next
pub nested_arrays : places
    (in_t
    (node (step cluster (codes "CL[%s]")) (array 2 0x20 0x100) (node (step register (codes "R[%s]")) (array 2 8 4) leaf leaf)
    (node (step register (codes "S")) (at_offset 0 ∷ []) leaf leaf)))
    ≡ at (to (codes "cl") (Some 0) ∷ to (codes "r") (Some 0) ∷ []) 0x40000104
    ∷ at (to (codes "cl") (Some 0) ∷ to (codes "r") (Some 1) ∷ []) 0x4000010C
    ∷ at (to (codes "cl") (Some 1) ∷ to (codes "r") (Some 0) ∷ []) 0x40000124
    ∷ at (to (codes "cl") (Some 1) ∷ to (codes "r") (Some 1) ∷ []) 0x4000012C
    ∷ at (to (codes "s") None ∷ []) 0x40000000
    ∷ []
unfolding table_of members_in_order array_paths rows_of_member row_path register_row parts mask_of number_of_bits is_masked value_of paths_of ways_down keys_down properties_of address_of holding same_step inside top_key child_step keys_of children_of ends_with begins exchanged own under forest_rows rows is_element is_keyword is_prelude_name
nested_arrays = refl

-- ---- arrays of fields

-- the fields of each row
abbrev fields_in : List (Row Step Key) → List (List FieldRow)
fields_in all = map (λ row. row.fields) (table_of all)

-- `LV[%s]`: four fields of two bits, eight bits apart, whose bits are cleared by writing 1
abbrev levels : FieldRow
levels = record {
  name = codes "lv";
  offset = 0;
  width = 2;
  dim = Some (record { count = 4; step = 8 });
  readable = true;
  writable = true;
  kind = OneToClear;
  is_calls = [];
  set_calls = [];
}

-- an array of fields is one field of the row, with its members
pub field_array :
    fields_in (in_t (node (step register (codes "R")) (at_offset 0 ∷ []) (node (step field (codes "LV[%s]")) (dim_count 4 ∷ dim_increment 8 ∷ at_offset 0 ∷ bit_width 2 ∷ write_kind OneToClear ∷ []) leaf leaf) leaf))
    ≡ (levels ∷ []) ∷ []
unfolding table_of members_in_order array_paths rows_of_member row_path register_row field_row parts calls_of first_of_each mask_of number_of_bits is_masked value_of paths_of ways_down keys_down properties_of address_of holding same_step inside top_key child_step keys_of children_of ends_with begins exchanged own under forest_rows rows is_element is_keyword is_prelude_name
field_array = refl

-- each member has a line, and its bits are in the mask
pub field_array_lines :
    flat_map field_lines (levels ∷ [])
    ≡ codes "  lv[0] [1:0] rw oneToClear\n" ++ (codes "  lv[1] [9:8] rw oneToClear\n" ++ (codes "  lv[2] [17:16] rw oneToClear\n" ++ codes "  lv[3] [25:24] rw oneToClear\n"))
unfolding member_line bits_text effect_text digits
field_array_lines = refl

pub field_array_mask : mask_of is_by_one (levels ∷ []) ≡ 0x03030303
unfolding mask_of number_of_bits is_masked
field_array_mask = refl
