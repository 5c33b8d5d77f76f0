-- Stripping in the tree: the edit of what is below one element, and what becomes of the keys of its children.
use Rattle.std.specs.Prelude.{◌≡◌, ◌⊎◌, ℕ, List, map, Option, None, Result, Ok, Err, MatchResult}
use Rattle.patch_edits.specs.Deletions.{but_in_field}
use Rattle.patch_edits.specs.Visits.{Below}
use Rattle.patch_sem.specs.declared.fault.PatchFault.{PatchFault}
use Rattle.patch_sem.specs.declared.fault.PatchFault.TheVariants.{Memory}
use Rattle.patch_sem.specs.Steps.{Outcome}
use Rattle.patch_sem.specs.Stripping.{first_clash, stripped, stripped_step, unless_clash}
use Rattle.svd_model.specs.declared.device.Item.{Item}
use Rattle.svd_model.specs.declared.sibling.Sibling.{Sibling}
use Rattle.svd_model.specs.Keys.{Key}
use Rattle.svd_model.specs.Steps.{Kind, Step}
use Rattle.svd_rows.specs.Edits.{renamed}
use Rattle.svd_rows.specs.Forest.{Tree, steps}

abbrev pub step_name : Step → List ℕ
step_name step = step.name

-- the children under their names without the prefix, unless two of them would have one
unfoldable pub stripped_below : ℕ → List ℕ → Option Kind → Below → Outcome Below
stripped_below line prefix kind below =
    but_in_field line kind (unless_clash line (first_clash prefix (map step_name (steps below))) (Ok (renamed (stripped_step prefix) below)))

-- ---- the lists of a description's tree

abbrev pub stripped_key : List ℕ → Sibling → Sibling
stripped_key prefix key = record { name = stripped prefix key.name; number = key.number }

abbrev pub stripped_entry : {V : Type 0} → List ℕ → (Sibling × V) → (Sibling × V)
stripped_entry prefix entry = (stripped_key prefix entry.0, entry.1)

abbrev pub entry_name : {V : Type 0} → (Sibling × V) → List ℕ
entry_name entry = entry.0.name

abbrev pub item_name : Item → List ℕ
item_name item = item.key.name

-- an element under its name without the prefix
abbrev pub stripped_element : List ℕ → (Step × Tree Step Key) → (Step × Tree Step Key)
stripped_element prefix element = (stripped_step prefix element.0, element.1)

-- all is well
abbrev pub nothing : Outcome (Unit {0})
nothing = Ok tt

-- the children of these names have others then, unless two of them would have one
abbrev pub Strips : ℕ → List ℕ → List (List ℕ) → Type 0 → Result (Unit {0}) PatchFault → Type 0
Strips line prefix names others result =
    MatchResult result
    (λ done. (first_clash prefix names ≡ None) × others)
    (λ fault. (fault ≡ Memory) ⊎ (unless_clash line (first_clash prefix names) nothing ≡ Err fault))
