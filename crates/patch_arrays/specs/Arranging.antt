-- An array in the tree: the edit of what is below one element, by its children one after the other.
use Rattle.std.specs.Prelude.{ℕ, Bool, not, ◌&&◌, nat_eq, nat_lt, cond, List, [], ◌∷◌, map, filter, find, length, Option, None, option_map, Ok}
use Rattle.std.specs.List.{list_any}
use Rattle.patch_edits.specs.Deletions.{but_in_field}
use Rattle.patch_edits.specs.Visits.{Below}
use Rattle.patch_model.specs.Acts.{PatternItems}
use Rattle.patch_sem.specs.declared.fault.PatchFault.TheVariants.{AddExists}
use Rattle.patch_sem.specs.Arrays.{first_step, first_uneven, is_told, ordered_by, unless_uneven, unless_unlike}
use Rattle.patch_sem.specs.Copying.{renamed_step}
use Rattle.patch_sem.specs.Likeness.{same_rows}
use Rattle.patch_sem.specs.Selecting.{is_named, selects}
use Rattle.patch_sem.specs.Steps.{Outcome, refused_if, unless_none}
use Rattle.svd_model.specs.Facts.{is_dim}
use Rattle.svd_model.specs.Keys.{Key, dim_count, dim_increment, rank}
use Rattle.svd_model.specs.Stating.{start_of}
use Rattle.svd_model.specs.Steps.{Kind, Step, same_kind}
use Rattle.svd_rows.specs.Forest.{Tree, leaf, node, siblings}
use Rattle.svd_rows.specs.RowEdits.{added, exchanged, some_pass}
use Rattle.svd_rows.specs.Rows.{rows}

-- an element under its step
abbrev pub Element : Type 0
Element = Step × Tree Step Key

-- siblings one after the other
unfoldable pub elements : Below → List Element
elements leaf = []
elements (node step keys children others) = (step, record { keys = keys; below = children }) ∷ elements others

-- does the child become a member: does the pattern match it, and is it no list or array?
abbrev pub is_member : PatternItems → Element → Bool
is_member pattern element = selects pattern element.0 && not (list_any is_dim element.1.keys)

-- the byte or bit at which it stands; 0 where it states none
abbrev pub offset_of : Element → ℕ
offset_of element = start_of element.1.keys None

-- the members by offset, those of one offset as they stand
abbrev pub arranged : PatternItems → List Element → List Element
arranged pattern all = ordered_by offset_of (filter (is_member pattern) all)

-- the step of an element with its offset
abbrev pub placed_step : Element → (Step × ℕ)
placed_step element = (element.0, offset_of element)

-- is it not like another, in kind, in a key beside the offset, or in what stands below it?
abbrev pub differs : Element → Element → Bool
differs one other = not (same_kind one.0.kind other.0.kind && same_rows (filter is_told (rows one.1)) (filter is_told (rows other.1)))

-- the first member, and the first behind it that isn't like it
abbrev pub first_differing : List Element → Option (Step × Step)
first_differing [] = None
first_differing (first ∷ others) = option_map (λ (other : Element). (first.0, other.0)) (find (differs first) others)

-- ---- the array

-- the key behind those of lower rank, in the place of the one of its rank
unfoldable pub put_key : Key → List Key → List Key
put_key key keys = put (filter (λ other. not (nat_eq (rank other) (rank key))) keys)
  where
    is_lower : Key → Bool
    is_lower other = nat_lt (rank other) (rank key)

    put : List Key → List Key
    put others = cond (some_pass is_lower others) (added is_lower (key ∷ []) others) (key ∷ others)

-- keys with so many members at that step
abbrev pub dimmed : ℕ → ℕ → List Key → List Key
dimmed count step keys = put_key (dim_increment step) (put_key (dim_count count) keys)

-- steps are told as they are, or as the numbers of a description hold them
abbrev pub exact : ℕ → ℕ
exact step = step

-- the first member under the new name, with as many members at their step, as that is told
abbrev pub array_of : (ℕ → ℕ) → List ℕ → List Element → List Element
array_of told name [] = []
array_of told name (first ∷ others) = (
  renamed_step name first.0,
  record {
    keys = dimmed (length (first ∷ others)) (told (first_step (map placed_step (first ∷ others)))) first.1.keys;
    below = first.1.below;
  },
) ∷ []

-- the array where the first of the members stood
abbrev pub with_array : (ℕ → ℕ) → PatternItems → List ℕ → List Element → List Element
with_array told pattern name all = exchanged (is_member pattern) (array_of told name (arranged pattern all)) all

-- a child that isn't a member has the name
abbrev pub is_taken : PatternItems → List ℕ → List Element → Bool
is_taken pattern name all = list_any (λ element. is_named name element.0 && not (is_member pattern element)) all

abbrev pub arraying_in : (ℕ → ℕ) → ℕ → PatternItems → List ℕ → List Element → Outcome Below
arraying_in told line pattern name all =
    unless_none line (filter (is_member pattern) all)
    (refused_if (is_taken pattern name all) (AddExists line name)
    (unless_uneven line (first_uneven (map placed_step (arranged pattern all)))
    (unless_unlike line (first_differing (arranged pattern all))
    (Ok (siblings (with_array told pattern name all))))))

unfoldable pub arrayed_below : (ℕ → ℕ) → ℕ → PatternItems → List ℕ → Option Kind → Below → Outcome Below
arrayed_below told line pattern name kind below = but_in_field line kind (arraying_in told line pattern name (elements below))
