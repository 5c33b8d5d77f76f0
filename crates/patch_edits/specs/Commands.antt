-- What a command leaves of a description's flat rows, or its fault.
use Rattle.std.specs.Prelude.{◌≡◌, ◌⊎◌, ℕ, List, Result, Ok, Err, MatchResult}
use Rattle.patch_model.specs.Acts.{Deed, Order, PatternItems}
use Rattle.patch_sem.specs.declared.fault.PatchFault.{PatchFault}
use Rattle.patch_sem.specs.declared.fault.PatchFault.TheVariants.{Memory}
use Rattle.patch_sem.specs.Patching.{applied}
use Rattle.patch_sem.specs.Selecting.{Rows}
use Rattle.svd_model.specs.Counting.{elements_in, told_count}
use Rattle.svd_model.specs.declared.device.Device.{Device}
use Rattle.svd_model.specs.Trees.{device_tree}

-- a command at a line, with the patterns round it
abbrev pub order_at : ℕ → List PatternItems → Deed → Order
order_at line parents deed = record { line = line; parents = parents; deed = deed }

-- the rows are those that the command leaves, or the fault is the command's; out of memory says nothing of it
abbrev pub IsApplied : Order → Rows → Rows → Result (Unit {0}) PatchFault → Type 0
IsApplied order old new result = MatchResult result (λ done. applied order old ≡ Ok new) (λ fault. (fault ≡ Memory) ⊎ (applied order old ≡ Err fault))

-- the number is how many elements the device has, as it tells itself
abbrev pub IsCounted : Device → ℕ → Type 0
IsCounted device total = total ≡ told_count (elements_in (device_tree device).below)

-- the two have as many elements
abbrev pub AreAsMany : Device → Device → Type 0
AreAsMany old new = (total : ℕ) → IsCounted old total → IsCounted new total
