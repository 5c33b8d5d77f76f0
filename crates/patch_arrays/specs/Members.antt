-- A child as an array sees it: its kind, its keys, and what stands below it.
use Rattle.std.specs.Prelude.{ℕ, Bool, ◌&&◌, List, map}
use Rattle.patch_arrays.specs.Arranging.{Element, dimmed}
use Rattle.patch_edits.specs.Visits.{Below}
use Rattle.patch_arrays.specs.Siblings.{same_told}
use Rattle.svd_model.specs.declared.sibling.Sibling.{Sibling}
use Rattle.svd_model.specs.Keys.{Key}
use Rattle.svd_model.specs.Steps.{Kind, Step, same_kind}
use Rattle.svd_model.specs.Trees.{step_of}
use Rattle.svd_rows.specs.Forest.{Tree, siblings}

abbrev pub Seen : Type 0
Seen = Kind × Tree Step Key

-- a child under its key
abbrev pub under_key : {M : Type 0} → (M → Seen) → (Sibling × M) → Element
under_key seen entry = (step_of (seen entry.1).0 entry.0, (seen entry.1).1)

-- the two are of one kind, and say the same but for their offsets
abbrev pub is_alike : Seen → Seen → Bool
is_alike one other = same_kind one.0 other.0 && same_told one.1 other.1

-- an array of so many members at that step
abbrev pub with_dim : ℕ → ℕ → Seen → Seen
with_dim count step one = (one.0, record { keys = dimmed count step one.1.keys; below = one.1.below })

abbrev pub entry_key : {M : Type 0} → (Sibling × M) → Sibling
entry_key entry = entry.0

-- children under their keys, as siblings
abbrev pub listed : {M : Type 0} → (M → Seen) → List (Sibling × M) → Below
listed seen entries = siblings (map (under_key seen) entries)
