-- What may be wrong with the dimension of one element: `dim` and the mark `%s` stand together (CMSIS-SVD 1.3,
-- `dimElementGroup`), and `dimIndex` gives an index for each member. That `dim` is 1 to 65,536 is this project's own
-- limit. A `dimIndex` without `dim` and without a mark isn't used, and is no fault.
use Rattle.std.specs.Prelude.{ℕ, Bool, nat_lt, nat_eq, List, Option, None, Some, if◌then◌else◌}
use Rattle.dim_expand.specs.declared.fault.Cause.{Cause}
use Rattle.dim_expand.specs.declared.fault.Cause.TheVariants.{Zero, TooLong, NoMark, IndexCount}
use Rattle.dim_expand.specs.Indexes.{indexes_given}
use Rattle.dim_expand.specs.Marks.{is_marked, has_dimension}
use Rattle.svd_model.specs.Counting.{told_count}
use Rattle.svd_model.specs.Keys.{Key, dim_index}
use Rattle.svd_model.specs.Stating.{value_of, stated_dim}
use Rattle.svd_model.specs.Steps.{Kind}
use Rattle.svd_values.specs.declared.index.DimIndex.{DimIndex}

-- how many members an element may have
abbrev pub dim_limit : ℕ
dim_limit = 65536

abbrev pub stated_index : Key → Option DimIndex
stated_index (dim_index index) = Some index
stated_index _ = None

-- the indexes are as many as the members
abbrev pub index_cause : ℕ → Option DimIndex → Option Cause
index_cause dim None = None
index_cause dim (Some index) =
    if nat_eq (told_count (indexes_given index)) dim then None else Some (IndexCount dim (told_count (indexes_given index)))

-- what is wrong with an element of that many members
abbrev pub members_cause : Bool → ℕ → Option DimIndex → Option Cause
members_cause marked dim index =
    if nat_eq dim 0 then Some Zero else (if nat_lt dim_limit dim then Some (TooLong dim) else (if marked then index_cause dim index else Some NoMark))

-- what is wrong with an element whose name holds a mark or doesn't, and which states these
unfoldable pub dim_cause : Bool → Option ℕ → Option DimIndex → Option Cause
dim_cause marked None index = if marked then Some NoMark else None
dim_cause marked (Some dim) index = members_cause marked dim index

-- what is wrong with the dimension of an element of this kind, name and keys
unfoldable pub cause_at : Kind → List ℕ → List Key → Option Cause
cause_at kind name keys =
    if has_dimension kind then dim_cause (is_marked name) (value_of stated_dim keys) (value_of stated_index keys) else None
