-- What a walk through a description leaves, or which fault it ends with.
use Rattle.std.specs.Prelude.{◌≡◌, ◌⊎◌, ℕ, ◌+◌, true, List, map, OnOk, Result, Ok, Err, MatchResult, Option, Some}
use Rattle.patch_model.specs.Acts.{PatternItems}
use Rattle.patch_sem.specs.declared.fault.PatchFault.{PatchFault}
use Rattle.patch_sem.specs.declared.fault.PatchFault.TheVariants.{Memory}
use Rattle.patch_sem.specs.Selecting.{selects}
use Rattle.patch_sem.specs.Steps.{Outcome}
use Rattle.patch_edits.specs.Visits.{Below, only_if}
use Rattle.svd_model.specs.Counting.{elements_in, told_count}
use Rattle.svd_model.specs.Facts.{is_counted}
use Rattle.svd_model.specs.declared.device.Child.{Child}
use Rattle.svd_model.specs.declared.device.Field.{Field}
use Rattle.svd_model.specs.declared.device.Item.{Item}
use Rattle.svd_model.specs.declared.device.Peripheral.{Peripheral}
use Rattle.svd_model.specs.declared.sibling.Sibling.{Sibling}
use Rattle.svd_model.specs.Keys.{Key}
use Rattle.svd_model.specs.Steps.{Kind, Step}
use Rattle.svd_model.specs.Trees.{child_tree, field_under, item_under, peripheral_tree, peripheral_under}
use Rattle.svd_rows.specs.Forest.{Tree, siblings}

-- what is left is what the steps come to, or the fault is theirs
abbrev pub Edited : Outcome Below → Below → Result (Unit {0}) PatchFault → Type 0
Edited outcome new result = MatchResult result (λ done. outcome ≡ Ok new) (λ fault. (fault ≡ Memory) ⊎ (outcome ≡ Err fault))

-- one element whose step the pattern matches, or not: what is below it is edited, and all else stays
abbrev pub EditedOne : PatternItems → (Kind → Below → Outcome Below) → (Step × Tree Step Key) → (Step × Tree Step Key) → Result (Unit {0}) PatchFault → Type 0
EditedOne pattern edit old new result =
    MatchResult result
    (λ done. (only_if (selects pattern old.0) (edit old.0.kind old.1.below) old.1.below ≡ Ok new.1.below) × (new.0 ≡ old.0) × (new.1.keys ≡ old.1.keys))
    (λ fault. (fault ≡ Memory) ⊎ (only_if (selects pattern old.0) (edit old.0.kind old.1.below) old.1.below ≡ Err fault))

-- what is below a register or cluster is edited, and all else stays
abbrev pub EditedChild : (Option Kind → Below → Outcome Below) → (Kind × Tree Step Key) → (Kind × Tree Step Key) → Result (Unit {0}) PatchFault → Type 0
EditedChild edit old new result =
    MatchResult result
    (λ done. (edit (Some old.0) old.1.below ≡ Ok new.1.below) × (new.0 ≡ old.0) × (new.1.keys ≡ old.1.keys))
    (λ fault. (fault ≡ Memory) ⊎ (edit (Some old.0) old.1.below ≡ Err fault))

-- ---- the running count

-- what stands below the device, a peripheral or cluster, a register, as the lists of its children have it
abbrev pub below_device : List (Sibling × Peripheral) → Below
below_device entries = siblings (map peripheral_under entries)

abbrev pub below_block : List Item → Below
below_block items = siblings (map item_under items)

abbrev pub below_register : List (Sibling × Field) → Below
below_register entries = siblings (map field_under entries)

-- and below one peripheral, item or child
abbrev pub below_peripheral : Peripheral → Below
below_peripheral element = (peripheral_tree element).below

abbrev pub below_item : Item → Below
below_item item = (item_under item).1.below

abbrev pub below_child : Child → Below
below_child child = (child_tree child).1.below

-- how what stands under keys is seen as siblings
abbrev pub Under : Type 0 → Type 0
Under A = (Sibling × A) → Step × Tree Step Key

-- each of these siblings is counted itself
abbrev pub AreCounted : {A : Type 0} → Under A → Type 0
AreCounted {A = A} under = (entry : Sibling × A) → is_counted (under entry).0 ≡ true

-- so many elements stand below it, whatever its key
abbrev pub HasBelow : {A : Type 0} → Under A → A → ℕ → Type 0
HasBelow under value total = (key : Sibling) → total ≡ told_count (elements_in (under (key, value)).1.below)

-- a count of these elements, with others, has become the count of those that are left, with the same others
abbrev pub Recounted : ℕ → Below → ℕ → Below → Type 0
Recounted before old after new = (others : ℕ) → before ≡ others + elements_in old → after ≡ others + elements_in new

-- the same of what stands below, where the steps went through
abbrev pub Recounts : {A : Type 0} → (A → Below) → Result (Unit {0}) PatchFault → ℕ → A → ℕ → A → Type 0
Recounts below result before old after new = OnOk result (Recounted before (below old) after (below new))
