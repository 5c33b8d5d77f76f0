-- What the laws of this crate say, each as one statement.
use Rattle.std.specs.Prelude.{ℕ, ◌≡◌, List}
use Rattle.frag_tree.specs.declared.script.Script.{Script}
use Rattle.frag_tree.specs.Trees.{CrateTree}
use Rattle.frag_sem.specs.Likeness.{AlikePlaces}
use Rattle.frag_sem.specs.ScriptTyping.{script_fault}
use Rattle.frag_sem.specs.TextMeaning.{text_at, text_meaning, text_presets}
use Rattle.frag_sem.specs.TextSurface.{text_surface}
use Rattle.reg_table.specs.Registers.{table_of}
use Rattle.svd_model.specs.declared.device.Device.{Device}
use Rattle.svd_model.specs.Facts.{IsChecked, IsUnfolded}
use Rattle.svd_model.specs.Trees.{device_rows}
use Rattle.table_sem.specs.TableMeaning.{row_at, table_presets, table_run}
use Rattle.table_sem.specs.TableSurface.{table_surface}
use Rattle.crate_form.specs.Crates.{emitted}
use Rattle.crate_means.specs.CrateIs.{CrateIs}

-- ---- crates that stand for a device

-- At each place a crate that stands for a device has a register that does what the table's row says, at the row's address; or neither has one.
abbrev pub PlacesAreAlike : Type 0
PlacesAreAlike = (device : Device) → IsUnfolded device → (krate : CrateTree) → CrateIs device krate → AlikePlaces (text_at krate) (row_at (table_of (device_rows device)))

-- So each script has the same events, whatever the answers are.
abbrev pub SameMeaning : Type 0
SameMeaning =
    (device : Device) → IsUnfolded device → (krate : CrateTree) → CrateIs device krate
    → (script : Script) (answers : List ℕ) → text_meaning krate script answers ≡ table_run (table_of (device_rows device)) script answers

-- It has the same presets.
abbrev pub SamePresets : Type 0
SamePresets =
    (device : Device) → IsUnfolded device → (krate : CrateTree) → CrateIs device krate
    → (script : Script) → text_presets krate script ≡ table_presets (table_of (device_rows device)) script

-- The text's surface is the table's, entry by entry.
abbrev pub SameSurface : Type 0
SameSurface = (device : Device) → IsUnfolded device → (krate : CrateTree) → CrateIs device krate → text_surface krate ≡ table_surface (device_rows device)

-- So each script has the same first fault, or none.
abbrev pub SameFaults : Type 0
SameFaults =
    (device : Device) → IsUnfolded device → (krate : CrateTree) → CrateIs device krate
    → (script : Script) → script_fault (text_surface krate) script ≡ script_fault (table_surface (device_rows device)) script

-- ---- the crate that is emitted

-- The crate that is emitted for a checked description stands for it.
abbrev pub EmittedStands : Type 0
EmittedStands = (device : Device) → IsChecked device → CrateIs device (emitted (device_rows device))

-- So it has at each place the register of the table's row, at the row's address, or neither has one;
abbrev pub EmittedPlaces : Type 0
EmittedPlaces = (device : Device) → IsChecked device → AlikePlaces (text_at (emitted (device_rows device))) (row_at (table_of (device_rows device)))

-- its surface is the table's;
abbrev pub EmittedSurface : Type 0
EmittedSurface = (device : Device) → IsChecked device → text_surface (emitted (device_rows device)) ≡ table_surface (device_rows device)

-- each script has the same first fault, or none;
abbrev pub EmittedFaults : Type 0
EmittedFaults =
    (device : Device) → IsChecked device → (script : Script) → script_fault (text_surface (emitted (device_rows device))) script ≡ script_fault (table_surface (device_rows device)) script

-- the same events, whatever the answers are;
abbrev pub EmittedMeaning : Type 0
EmittedMeaning =
    (device : Device) → IsChecked device → (script : Script) (answers : List ℕ) → text_meaning (emitted (device_rows device)) script answers ≡ table_run (table_of (device_rows device)) script answers

-- and the same presets.
abbrev pub EmittedPresets : Type 0
EmittedPresets = (device : Device) → IsChecked device → (script : Script) → text_presets (emitted (device_rows device)) script ≡ table_presets (table_of (device_rows device)) script
