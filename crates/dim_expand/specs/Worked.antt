-- Small descriptions with what unfolding makes of their rows, by computation.
use Rattle.std.specs.Prelude.{◌≡◌, ℕ, List, [], ◌∷◌, ◌++◌, map, codes, refl}
use Rattle.std.specs.Fmt.{digits}
use Rattle.dim_expand.specs.Marks.{is_marked, is_list_name, is_list, indexed}
use Rattle.dim_expand.specs.Unfolding.{groups_of, group_step, group_keys, numbered_behind, sibling_rows, unfolded_below, unfolded_rows}
use Rattle.svd_model.specs.Keys.{Key, dim_count, dim_increment, dim_index, base_address, at_offset, bit_width}
use Rattle.svd_model.specs.Stating.{value_of}
use Rattle.svd_model.specs.Steps.{Step, Kind, peripheral, register, field, same_step}
use Rattle.svd_rows.specs.LookUps.{inside, keys_of, top_key, children_of, child_step}
use Rattle.svd_rows.specs.Paths.{begins}
use Rattle.svd_rows.specs.Rows.{Row, Said, element, states, own, under}
use Rattle.svd_values.specs.declared.index.DimIndex.TheVariants.{Letters}

abbrev row : List Step → Said Key → Row Step Key
row path said = record { path = path; said = said }

abbrev step : Kind → List ℕ → ℕ → Step
step kind name number = record { kind = kind; name = name; number = number }

abbrev timer : Step
timer = step peripheral (codes "T") 0

abbrev channel : List ℕ → ℕ → Step
channel name number = step register name number

abbrev enable : Step
enable = step field (codes "EN") 0

-- the rows of a register with this step, these keys and one field
abbrev channel_rows : Step → List Key → List (Row Step Key)
channel_rows s keys =
    row (timer ∷ s ∷ []) element ∷ (map (λ key. row (timer ∷ s ∷ []) (states key)) keys ++ (row (timer ∷ s ∷ enable ∷ []) element ∷ row (timer ∷ s ∷ enable ∷ []) (states (at_offset 1)) ∷ []))

abbrev device_rows : List (Row Step Key) → List (Row Step Key)
device_rows below = row [] element ∷ row (timer ∷ []) element ∷ row (timer ∷ []) (states (base_address 4096)) ∷ below

-- a list of two registers, which are told apart by letters, 4 bytes apart
pub list-of-letters : unfolded_rows (device_rows (channel_rows (channel (codes "CH%s") 0) (dim_count 2 ∷ dim_increment 4 ∷ dim_index (Letters 65 66) ∷ at_offset 8 ∷ []))) ≡ device_rows (channel_rows (channel (codes "CHA") 0) (at_offset 8 ∷ []) ++ channel_rows (channel (codes "CHB") 0) (at_offset 12 ∷ []))
unfolding unfolded_rows unfolded_below sibling_rows numbered_behind groups_of group_step group_keys is_list is_list_name is_marked indexed value_of inside keys_of top_key children_of child_step begins same_step own under
list-of-letters = refl

-- a register `CH0`, and a list whose first member has that name too: its number is 1
pub same-names : unfolded_rows (device_rows (channel_rows (channel (codes "CH0") 0) (at_offset 64 ∷ []) ++ channel_rows (channel (codes "CH%s") 0) (dim_count 2 ∷ dim_increment 4 ∷ at_offset 8 ∷ []))) ≡ device_rows (channel_rows (channel (codes "CH0") 0) (at_offset 64 ∷ []) ++ (channel_rows (channel (codes "CH0") 1) (at_offset 8 ∷ []) ++ channel_rows (channel (codes "CH1") 0) (at_offset 12 ∷ [])))
unfolding unfolded_rows unfolded_below sibling_rows numbered_behind groups_of group_step group_keys is_list is_list_name is_marked indexed value_of inside keys_of top_key children_of child_step begins same_step own under digits
same-names = refl

-- the rows of a register `R` with fields of these names and keys
abbrev field_rows : List (List ℕ × List Key) → List (Row Step Key)
field_rows fields = row (timer ∷ channel (codes "R") 0 ∷ []) element ∷ below fields
  where
    below : List (List ℕ × List Key) → List (Row Step Key)
    below [] = []
    below (one ∷ others) =
        row (timer ∷ channel (codes "R") 0 ∷ step field one.0 0 ∷ []) element ∷ (map (λ key. row (timer ∷ channel (codes "R") 0 ∷ step field one.0 0 ∷ []) (states key)) one.1 ++ below others)

-- an array of fields stays one field
pub array-of-fields : unfolded_rows (device_rows (field_rows ((codes "LV[%s]", dim_count 4 ∷ dim_increment 8 ∷ at_offset 0 ∷ bit_width 2 ∷ []) ∷ []))) ≡ device_rows (field_rows ((codes "LV[%s]", dim_count 4 ∷ dim_increment 8 ∷ at_offset 0 ∷ bit_width 2 ∷ []) ∷ []))
unfolding unfolded_rows unfolded_below sibling_rows numbered_behind groups_of group_step group_keys is_list is_list_name is_marked indexed value_of inside keys_of top_key children_of child_step begins same_step own under
array-of-fields = refl

-- a list of fields becomes its members
pub list-of-fields : unfolded_rows (device_rows (field_rows ((codes "F%s", dim_count 2 ∷ dim_increment 8 ∷ at_offset 1 ∷ bit_width 2 ∷ []) ∷ []))) ≡ device_rows (field_rows ((codes "F0", at_offset 1 ∷ bit_width 2 ∷ []) ∷ (codes "F1", at_offset 9 ∷ bit_width 2 ∷ []) ∷ []))
unfolding unfolded_rows unfolded_below sibling_rows numbered_behind groups_of group_step group_keys is_list is_list_name is_marked indexed value_of inside keys_of top_key children_of child_step begins same_step own under digits
list-of-fields = refl
