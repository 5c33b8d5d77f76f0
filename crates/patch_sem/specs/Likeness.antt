-- When two elements say the same: rows that are equal, one by one.
use Rattle.std.specs.Prelude.{ℕ, Bool, true, false, ◌&&◌, ◌==◌, Option, None, Some}
use Rattle.std.specs.Str.{bytes_eq}
use Rattle.std.specs.Cmp.Lexicographic.{pointwise}
use Rattle.pac_base.specs.declared.path.Step.{Step as Written}
use Rattle.svd_model.specs.Keys.{Key, device_name, derived_from, dim_count, dim_increment, dim_index, base_address, at_offset, bit_width, alternate_of, alternate_group, register_size, register_access, reset_value, reset_mask, write_kind, read_action, value_usage, enumerated_value}
use Rattle.svd_model.specs.Steps.{Step, same_step}
use Rattle.svd_rows.specs.Rows.{Row, Said, element, states}
use Rattle.svd_values.specs.declared.index.DimIndex.{DimIndex}
use Rattle.svd_values.specs.declared.index.DimIndex.TheVariants.{Numbers, Letters, Words}
use Rattle.svd_values.specs.SchemaWords.{access_text, write_kind_text, read_action_text, usage_text}
use Rattle.patch_sem.specs.Selecting.{Rows}

abbrev pub same_number : Option ℕ → Option ℕ → Bool
same_number None None = true
same_number None (Some m) = false
same_number (Some n) None = false
same_number (Some n) (Some m) = n == m

abbrev pub same_written : Written → Written → Bool
same_written one other = bytes_eq one.name other.name && same_number one.index other.index

abbrev pub same_index : DimIndex → DimIndex → Bool
same_index (Numbers first last) (Numbers begin end) = first == begin && last == end
same_index (Letters first last) (Letters begin end) = first == begin && last == end
same_index (Words words) (Words others) = pointwise bytes_eq words others
same_index _ _ = false

-- keys with equal values
abbrev pub same_value : Key → Key → Bool
same_value (device_name name) (device_name other) = bytes_eq name other
same_value (derived_from path) (derived_from other) = pointwise same_written path other
same_value (dim_count n) (dim_count m) = n == m
same_value (dim_increment n) (dim_increment m) = n == m
same_value (dim_index index) (dim_index other) = same_index index other
same_value (base_address n) (base_address m) = n == m
same_value (at_offset n) (at_offset m) = n == m
same_value (bit_width n) (bit_width m) = n == m
same_value (alternate_of name) (alternate_of other) = bytes_eq name other
same_value (alternate_group name) (alternate_group other) = bytes_eq name other
same_value (register_size n) (register_size m) = n == m
same_value (register_access access) (register_access other) = bytes_eq (access_text access) (access_text other)
same_value (reset_value n) (reset_value m) = n == m
same_value (reset_mask n) (reset_mask m) = n == m
same_value (write_kind kind) (write_kind other) = bytes_eq (write_kind_text kind) (write_kind_text other)
same_value (read_action action) (read_action other) = bytes_eq (read_action_text action) (read_action_text other)
same_value (value_usage usage) (value_usage other) = bytes_eq (usage_text usage) (usage_text other)
same_value (enumerated_value n) (enumerated_value m) = n == m
same_value _ _ = false

abbrev pub same_said : Said Key → Said Key → Bool
same_said element element = true
same_said (states key) (states other) = same_value key other
same_said _ _ = false

abbrev pub same_row : Row Step Key → Row Step Key → Bool
same_row one other = pointwise same_step one.path other.path && same_said one.said other.said

-- equal rows
unfoldable pub same_rows : Rows → Rows → Bool
same_rows all others = pointwise same_row all others
