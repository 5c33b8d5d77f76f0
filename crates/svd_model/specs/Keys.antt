-- The keys of elements with their values, as the rows of a description state them (CMSIS-SVD 1.3), and the
-- one order in which they stand.
use Rattle.std.specs.Prelude.{ℕ, List}
use Rattle.pac_base.specs.declared.path.Step.{Step}
use Rattle.svd_values.specs.declared.index.DimIndex.{DimIndex}
use Rattle.svd_values.specs.declared.schema_word.Access.{Access}
use Rattle.svd_values.specs.declared.schema_word.ReadAction.{ReadAction}
use Rattle.svd_values.specs.declared.schema_word.Usage.{Usage}
use Rattle.svd_values.specs.declared.schema_word.WriteKind.{WriteKind}

pub data Key : Type 0 where
  device_name : (name : List ℕ) → Key
  derived_from : (path : List Step) → Key
  dim_count : (n : ℕ) → Key
  dim_increment : (n : ℕ) → Key
  dim_index : (index : DimIndex) → Key
  base_address : (n : ℕ) → Key
  at_offset : (n : ℕ) → Key
  bit_width : (n : ℕ) → Key
  alternate_of : (name : List ℕ) → Key
  alternate_group : (name : List ℕ) → Key
  register_size : (n : ℕ) → Key
  register_access : (access : Access) → Key
  reset_value : (n : ℕ) → Key
  reset_mask : (n : ℕ) → Key
  write_kind : (kind : WriteKind) → Key
  read_action : (action : ReadAction) → Key
  value_usage : (usage : Usage) → Key
  enumerated_value : (n : ℕ) → Key

-- the place of a key among the keys of its element
unfoldable pub rank : Key → ℕ
rank (device_name name) = 0
rank (derived_from path) = 1
rank (dim_count n) = 2
rank (dim_increment n) = 3
rank (dim_index index) = 4
rank (base_address n) = 5
rank (at_offset n) = 6
rank (bit_width n) = 7
rank (alternate_of name) = 8
rank (alternate_group name) = 9
rank (register_size n) = 10
rank (register_access access) = 11
rank (reset_value n) = 12
rank (reset_mask n) = 13
rank (write_kind kind) = 14
rank (read_action action) = 15
rank (value_usage usage) = 16
rank (enumerated_value n) = 17
