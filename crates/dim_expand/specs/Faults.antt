-- Why a description isn't unfolded: the first element, in document order, whose dimension is at fault; and where there is
-- none, the first count that passes its limit. The limits are this project's own.
use Rattle.std.specs.Prelude.{◌≡◌, ℕ, nat_lt, List, [], ◌∷◌, filter_map, map, reverse, Option, None, Some, option_map, if◌then◌else◌, ⊤}
use Rattle.std.specs.Option.{option_or}
use Rattle.dim_expand.specs.declared.fault.Cause.{Cause}
use Rattle.dim_expand.specs.declared.fault.Cause.TheVariants.{Zero, TooLong, NoMark, IndexCount}
use Rattle.dim_expand.specs.declared.fault.DimFault.{DimFault}
use Rattle.dim_expand.specs.declared.fault.DimFault.TheVariants.{DimZero, DimTooLong, DimNoMark, DimIndexCount, TooMany, Memory}
use Rattle.dim_expand.specs.Causes.{cause_at}
use Rattle.dim_expand.specs.Unfolding.{unfolded_rows}
use Rattle.pac_base.specs.declared.path.Step.{Step as Written}
use Rattle.svd_model.specs.declared.counted.Counted.{Counted}
use Rattle.svd_model.specs.declared.counted.Counted.TheVariants.{Elements, Registers, Fields, Values}
use Rattle.svd_model.specs.Counting.{told_count}
use Rattle.svd_model.specs.Facts.{element_limit, register_limit, field_limit, value_limit, elements_of, members_in}
use Rattle.svd_model.specs.Keys.{Key}
use Rattle.svd_model.specs.Stating.{keys_at, paths_of}
use Rattle.svd_model.specs.Steps.{Step, register, field, value}
use Rattle.svd_rows.specs.Rows.{Row}

-- the step of a path as it is told: the written name, and no index
abbrev pub told : Step → Written
told step = record { name = step.name; index = None }

-- the fault of the element of a path
abbrev pub fault_of : List Written → Cause → DimFault
fault_of path Zero = DimZero path
fault_of path (TooLong dim) = DimTooLong path dim
fault_of path NoMark = DimNoMark path
fault_of path (IndexCount dim given) = DimIndexCount path dim given

-- what is wrong with the element of a path, whose keys are these; the device has no dimension
unfoldable pub cause_of : List Step → List Key → Option Cause
cause_of path keys = by_last (reverse path)
  where
    by_last : List Step → Option Cause
    by_last [] = None
    by_last (step ∷ up) = cause_at step.kind step.name keys

-- the faults of dimensions, in document order
unfoldable pub dimension_faults : List (Row Step Key) → List DimFault
dimension_faults all =
    filter_map (λ path. option_map (fault_of (map told path)) (cause_of path (keys_at all path))) (paths_of all)

abbrev pub first_of : {A : Type 0} → List A → Option A
first_of [] = None
first_of (x ∷ xs) = Some x

-- ---- counts

-- how much of each there may be, where each list is unfolded
abbrev pub limit_of : Counted → ℕ
limit_of Elements = element_limit
limit_of Registers = register_limit
limit_of Fields = field_limit
limit_of Values = value_limit

-- how much of each there is
abbrev pub amount_of : Counted → List (Row Step Key) → ℕ
amount_of Elements all = elements_of all
amount_of Registers all = members_in register all
amount_of Fields all = members_in field all
amount_of Values all = members_in value all

-- a count that passes its limit
abbrev pub past_limit : Counted → ℕ → Option DimFault
past_limit counted amount =
    if nat_lt (limit_of counted) amount then Some (TooMany counted (told_count amount)) else None

-- the first count that passes its limit, where the amounts are these
abbrev pub first_past : (Counted → ℕ) → Option DimFault
first_past amount =
    option_or (past_limit Elements (amount Elements)) (option_or (past_limit Registers (amount Registers)) (option_or (past_limit Fields (amount Fields)) (past_limit Values (amount Values))))

-- ---- all

-- the first fault of a description: counts are those of the unfolded rows
unfoldable pub first_fault : List (Row Step Key) → Option DimFault
first_fault all =
    option_or (first_of (dimension_faults all)) (first_past (λ counted. amount_of counted (unfolded_rows all)))

-- the first fault is told; want of memory may come in its place
abbrev pub IsFirst : List (Row Step Key) → DimFault → Type 0
IsFirst all Memory = ⊤
IsFirst all fault = first_fault all ≡ Some fault
