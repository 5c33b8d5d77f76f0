-- Names with a mark: the mark `%s` stands for an index, and `[%s]` behind a name for the index of an array's member
-- (CMSIS-SVD 1.3, `dimableIdentifierType`). That peripherals are no arrays is this project's own rule.
use Rattle.std.specs.Prelude.{ℕ, Bool, true, false, not, ◌&&◌, List, [], ◌++◌, take, drop, if◌then◌else◌}
use Rattle.std.specs.List.{list_all, prefix_len}
use Rattle.std.specs.Str.{bytes_eq}
use Rattle.pac_base.specs.Names.{is_word_byte, array_mark}
use Rattle.svd_model.specs.Steps.{Step, Kind, peripheral, cluster, register, field, set, value}

-- what stands before the mark, and the mark with what stands behind it: the mark begins at the first byte that is no
-- letter, digit or `_`
abbrev pub before_mark : List ℕ → List ℕ
before_mark name = take (prefix_len is_word_byte name) name

abbrev pub from_mark : List ℕ → List ℕ
from_mark name = drop (prefix_len is_word_byte name) name

-- the name holds a mark
unfoldable pub is_marked : List ℕ → Bool
is_marked name = not (list_all is_word_byte name)

-- the mark is that of arrays
abbrev pub has_array_mark : List ℕ → Bool
has_array_mark name = bytes_eq (from_mark name) array_mark

-- what stands behind the mark
abbrev pub behind_mark : List ℕ → List ℕ
behind_mark name = if has_array_mark name then [] else drop 2 (from_mark name)

-- the name with this index in the place of its mark
unfoldable pub indexed : List ℕ → List ℕ → List ℕ
indexed name index = before_mark name ++ (index ++ behind_mark name)

-- elements of these kinds may have a dimension
abbrev pub has_dimension : Kind → Bool
has_dimension peripheral = true
has_dimension cluster = true
has_dimension register = true
has_dimension field = true
has_dimension set = false
has_dimension value = false

-- elements of these kinds may be arrays: the others always become lists
abbrev pub may_be_array : Kind → Bool
may_be_array peripheral = false
may_be_array cluster = true
may_be_array register = true
may_be_array field = true
may_be_array set = false
may_be_array value = false

-- an element of this name is a list, where elements of its kind may be arrays or not
unfoldable pub is_list_name : Bool → List ℕ → Bool
is_list_name arrays name = is_marked name && not (arrays && has_array_mark name)

-- the element of this step is a list: the name holds a mark, and the element is no array
unfoldable pub is_list : Step → Bool
is_list step = has_dimension step.kind && is_list_name (may_be_array step.kind) step.name
