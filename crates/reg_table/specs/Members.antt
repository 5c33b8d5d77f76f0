-- The members of a field, and where they lie in the register's word, in bits (CMSIS-SVD 1.3: member k of an array of fields begins k times `dimIncrement` bits behind the first).
use Rattle.std.specs.Prelude.{ℕ, ◌+◌, ◌*◌, ◌<◌, List, Option, Some, None, option_map, unwrap_or, ⊤}
use Rattle.reg_table.specs.declared.row.FieldDim.{FieldDim}
use Rattle.reg_table.specs.declared.row.FieldRow.{FieldRow}
use Rattle.svd_model.specs.Stating.{indexes_of}

-- how many members a field has; none where it is no array, and takes no index
abbrev pub member_count : FieldRow → Option ℕ
member_count field = option_map (λ dim. dim.count) field.dim

-- an index stands just where there is a count, and is below it
abbrev pub IsIndexOf : Option ℕ → Option ℕ → Type 0
IsIndexOf None None = ⊤
IsIndexOf None (Some index) = ⊥
IsIndexOf (Some count) None = ⊥
IsIndexOf (Some count) (Some index) = index < count

-- how many bits a member begins behind the first
abbrev pub member_behind : Option FieldDim → Option ℕ → ℕ
member_behind None index = 0
member_behind (Some dim) index = unwrap_or index 0 * dim.step

-- the lowest bit of a member
abbrev pub member_at : FieldRow → Option ℕ → ℕ
member_at field index = field.offset + member_behind field.dim index

-- the indexes of its members, in order
abbrev pub field_indexes : FieldRow → List (Option ℕ)
field_indexes field = indexes_of (member_count field)
