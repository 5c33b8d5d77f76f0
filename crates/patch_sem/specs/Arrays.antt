-- `_array`: the matching children become one element with as many members, at one step (svdtools' patch documentation,
-- narrowed). The offset of a peripheral is its base address.
use Rattle.std.specs.Prelude.{ℕ, ◌-◌, ◌==◌, nat_le, Bool, true, not, ◌&&◌, ◌||◌, List, [], ◌∷◌, map, filter, find, length, Option, None, Some, option_map, Ok, Err, if◌then◌else◌}
use Rattle.std.specs.List.{list_any}
use Rattle.patch_model.specs.Acts.{PatternItems}
use Rattle.svd_model.specs.Facts.{is_dim, is_offset}
use Rattle.svd_model.specs.Keys.{Key, dim_count, dim_increment}
use Rattle.svd_model.specs.Stating.{keys_at, start_of}
use Rattle.svd_model.specs.Steps.{Step, same_kind, same_step}
use Rattle.svd_rows.specs.LookUps.{children_of, inside}
use Rattle.svd_rows.specs.Paths.{begins}
use Rattle.svd_rows.specs.RowEdits.{exchanged}
use Rattle.svd_rows.specs.Rows.{Row, Said, states}
use Rattle.patch_sem.specs.declared.fault.PatchFault.TheVariants.{AddExists, ArrayUneven, ArrayUnlike}
use Rattle.patch_sem.specs.Additions.{is_base}
use Rattle.patch_sem.specs.Copying.{group_of, renamed_step}
use Rattle.patch_sem.specs.Likeness.{same_rows}
use Rattle.patch_sem.specs.Selecting.{Rows, is_named, selects}
use Rattle.patch_sem.specs.Settings.{with_keys}
use Rattle.patch_sem.specs.Steps.{Outcome, refused_if, unless_none}

-- the keys of a child
abbrev pub keys_of_child : Rows → Step → List Key
keys_of_child all step = keys_at all (step ∷ [])

-- the children that become members: those that match and state no `dim`, in document order
unfoldable pub members : PatternItems → Rows → List Step
members pattern all = filter (λ step. selects pattern step && not (list_any is_dim (keys_of_child all step))) (children_of all)

-- a member with the byte or bit at which it stands; 0 where it states none
abbrev pub placed : Rows → Step → (Step × ℕ)
placed all step = (step, start_of (keys_of_child all step) None)

-- before the first that isn't below it
unfoldable pub put_in : {A : Type 0} → (A → ℕ) → A → List A → List A
put_in key item [] = item ∷ []
put_in key item (first ∷ others) = if nat_le (key item) (key first) then item ∷ (first ∷ others) else first ∷ put_in key item others

-- by a number, equal ones as they stand
unfoldable pub ordered_by : {A : Type 0} → (A → ℕ) → List A → List A
ordered_by key [] = []
ordered_by key (item ∷ others) = put_in key item (ordered_by key others)

-- the members by offset, those of one offset as they stand
unfoldable pub by_offset : PatternItems → Rows → List (Step × ℕ)
by_offset pattern all = ordered_by (λ member. member.1) (map (placed all) (members pattern all))

-- is it one of these?
abbrev pub is_one_of : List Step → Step → Bool
is_one_of steps step = list_any (λ one. same_step one step) steps

-- ---- steps

-- how far the second stands behind the first
abbrev pub first_step : List (Step × ℕ) → ℕ
first_step [] = 0
first_step (one ∷ []) = 0
first_step (one ∷ (other ∷ others)) = other.1 - one.1

-- do the two stand at another step, or at none?
abbrev pub is_uneven : ℕ → (Step × ℕ) → (Step × ℕ) → Bool
is_uneven step one other = (other.1 - one.1 == 0) || not (other.1 - one.1 == step)

-- the neighbours in a list
unfoldable pub neighbours : {A : Type 0} → List A → List (A × A)
neighbours [] = []
neighbours (one ∷ []) = []
neighbours (one ∷ (other ∷ others)) = (one, other) ∷ neighbours (other ∷ others)

-- the first neighbours whose step is 0 or isn't the first
unfoldable pub first_uneven : List (Step × ℕ) → Option ((Step × ℕ) × (Step × ℕ))
first_uneven ordered = find (λ pair. is_uneven (first_step ordered) pair.0 pair.1) (neighbours ordered)

-- ---- likeness

-- what the members must have alike, beside the kind: the keys but the offset, and all that stands below
abbrev pub is_told : Row Step Key → Bool
is_told row = tells row.path row.said
  where
    tells : List Step → Said Key → Bool
    tells [] (states key) = not (is_offset key || is_base key)
    tells _ _ = true

-- a member that isn't like another
abbrev pub is_unlike : Rows → Step → Step → Bool
is_unlike all one other =
    not (same_kind one.kind other.kind && same_rows (filter is_told (inside same_step (one ∷ []) all)) (filter is_told (inside same_step (other ∷ []) all)))

-- the first member, and the first behind it that isn't like it
abbrev pub first_unlike : Rows → List (Step × ℕ) → Option (Step × Step)
first_unlike all [] = None
first_unlike all (first ∷ others) = option_map (λ (other : Step × ℕ). (first.0, other.0)) (find (λ other. is_unlike all first.0 other.0) others)

-- ---- the array

abbrev pub unless_uneven : {A : Type 0} → ℕ → Option ((Step × ℕ) × (Step × ℕ)) → Outcome A → Outcome A
unless_uneven line None rest = rest
unless_uneven line (Some pair) rest = Err (ArrayUneven line pair.0.0.name pair.1.0.name)

abbrev pub unless_unlike : {A : Type 0} → ℕ → Option (Step × Step) → Outcome A → Outcome A
unless_unlike line None rest = rest
unless_unlike line (Some pair) rest = Err (ArrayUnlike line pair.0.name pair.1.name)

-- the rows of the first member by offset, under the new name, with as many members at that step
abbrev pub array_of : List ℕ → List (Step × ℕ) → Rows → Rows
array_of name [] all = []
array_of name (first ∷ others) all =
    with_keys (renamed_step name first.0 ∷ []) (dim_count (length (first ∷ others)) ∷ dim_increment (first_step (first ∷ others)) ∷ [])
    (group_of first.0 (renamed_step name first.0) all)

-- the array, where the first of the members stood
abbrev pub with_array : List ℕ → List Step → List (Step × ℕ) → Rows → Rows
with_array name steps ordered all = exchanged (λ row. begins (is_one_of steps ∷ []) row.path) (array_of name ordered all) all

abbrev pub arrayed : ℕ → List ℕ → List Step → List (Step × ℕ) → Rows → Outcome Rows
arrayed line name steps ordered all =
    unless_none line steps
    (refused_if (list_any (λ step. is_named name step && not (is_one_of steps step)) (children_of all)) (AddExists line name)
    (unless_uneven line (first_uneven ordered)
    (unless_unlike line (first_unlike all ordered)
    (Ok (with_array name steps ordered all)))))

unfoldable pub arraying : ℕ → PatternItems → List ℕ → Rows → Outcome Rows
arraying line pattern name all = arrayed line name (members pattern all) (by_offset pattern all) all
