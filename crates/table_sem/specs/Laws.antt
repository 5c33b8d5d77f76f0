-- What the laws of this crate say, each as one statement.
use Rattle.std.specs.Prelude.{ℕ, ◌≡◌, ◌%◌, ◌^◌, ◌<◌, ◌≤◌, List, map, Option}
use Rattle.std.specs.List.{AllByRecursion}
use Rattle.bits_word.specs.Places.{put}
use Rattle.bits_word.specs.Start.{IsStart}
use Rattle.pac_base.specs.Widths.{bits_of, IsLeastWidth}
use Rattle.frag_tree.specs.declared.script.Script.{Script}
use Rattle.frag_sem.specs.Laws.{AccessInRange, AreAnswered, EventInRange}
use Rattle.frag_sem.specs.Likeness.{KeepsWords}
use Rattle.frag_sem.specs.PreludeWords.{written}
use Rattle.frag_sem.specs.Surfaces.{Entry}
use Rattle.reg_table.specs.Registers.{table_of}
use Rattle.reg_table.specs.declared.row.FieldRow.{FieldRow}
use Rattle.reg_table.specs.declared.row.Row.{Row as TableRow}
use Rattle.svd_model.specs.declared.device.Device.{Device}
use Rattle.svd_model.specs.Checking.{width_of}
use Rattle.svd_model.specs.Facts.{IsChecked, IsUnfolded}
use Rattle.svd_model.specs.Keys.{Key}
use Rattle.svd_model.specs.Steps.{Step}
use Rattle.svd_model.specs.Trees.{device_rows, device_tree}
use Rattle.svd_rows.specs.Rows.{Row}
use Rattle.table_sem.specs.Entries.{HasEntry, HasRows}
use Rattle.reg_table.specs.Members.{IsIndexOf, member_at, member_count}
use Rattle.table_sem.specs.Members.{member_get, member_put}
use Rattle.table_sem.specs.Names.{Named, names_of}
use Rattle.table_sem.specs.RowActs.{row_acts}
use Rattle.table_sem.specs.RowFacts.{FieldFits, RowFits}
use Rattle.table_sem.specs.StartNumber.{start_number}
use Rattle.table_sem.specs.SurfaceWalk.{entries_of_peripherals}
use Rattle.table_sem.specs.TableMeaning.{table_presets, table_run}
use Rattle.table_sem.specs.TableSurface.{table_surface}

-- ---- the start of a write

-- Each bit of the start word is what the rule says.
abbrev pub StartIsStart : Type 0
StartIsStart = (bits base one raised : ℕ) → IsStart bits base one raised (start_number bits base one raised)

-- It is a number of so many bits.
abbrev pub StartStays : Type 0
StartStays = (bits base one raised : ℕ) → start_number bits base one raised < 2 ^ bits

-- No other word of so many bits has these bits.
abbrev pub StartIsOne : Type 0
StartIsOne = (bits base one raised word : ℕ) → word < 2 ^ bits → IsStart bits base one raised word → word ≡ start_number bits base one raised

-- ---- members of fields

-- In a member of a field that fits a value is put by division alone: nothing is cut.
abbrev pub MemberIsPut : Type 0
MemberIsPut =
    (row : TableRow) (field : FieldRow) (index : Option ℕ) (word value : ℕ) → FieldFits row field → IsIndexOf (member_count field) index → word < 2 ^ bits_of row.width
    → member_put (bits_of row.width) field index word value ≡ put word (member_at field index) field.width value

-- What was put in a member is read there, cut to the field's bits.
abbrev pub MemberReadsBack : Type 0
MemberReadsBack =
    (row : TableRow) (field : FieldRow) (index : Option ℕ) (word value : ℕ) → FieldFits row field → IsIndexOf (member_count field) index → word < 2 ^ bits_of row.width
    → member_get field index (member_put (bits_of row.width) field index word value) ≡ value % 2 ^ field.width

-- The prelude's formula of crate texts puts by division too, wherever the place lies: what would stand above the word is cut off.
abbrev pub WrittenIsPut : Type 0
WrittenIsPut = (N w o n v : ℕ) → w < 2 ^ N → written N w o n v ≡ put w o n v % 2 ^ N

-- The type of a field is the least that holds its bits.
abbrev pub TypeIsLeast : Type 0
TypeIsLeast = (bits : ℕ) → 1 ≤ bits → bits ≤ 64 → IsLeastWidth bits (width_of bits)

-- ---- rows

-- The register of a row that fits keeps words of its width.
abbrev pub RowKeepsWords : Type 0
RowKeepsWords = (row : TableRow) → RowFits row → KeepsWords (row_acts row)

-- Each row of a checked description's table fits.
abbrev pub CheckedRowsFit : Type 0
CheckedRowsFit = (device : Device) → IsChecked device → AllByRecursion RowFits (table_of (device_rows device))

-- ---- events

-- Against rows that fit, each access of each script is in range, whatever the answers are.
abbrev pub RunInRange : Type 0
RunInRange = (table : List TableRow) → AllByRecursion RowFits table → (script : Script) (answers : List ℕ) → AllByRecursion EventInRange (table_run table script answers)

-- So is each preset.
abbrev pub PresetsInRange : Type 0
PresetsInRange =
    (table : List TableRow) → AllByRecursion RowFits table → (script : Script) → AllByRecursion (λ preset. AccessInRange preset.address preset.width preset.value) (table_presets table script)

-- The k-th read has the k-th answer, cut to its width, and 0 where there is none.
abbrev pub RunIsAnswered : Type 0
RunIsAnswered = (table : List TableRow) (script : Script) (answers : List ℕ) → AreAnswered (table_run table script answers) answers

-- ---- surfaces

abbrev pub name_of_entry : Entry → Named
name_of_entry entry = record { slot = entry.slot; accessors = entry.below.steps }

-- The surface has the names of the description, one entry each, in their order.
abbrev pub SurfaceIsNamed : Type 0
SurfaceIsNamed = (all : List (Row Step Key)) → map name_of_entry (table_surface all) ≡ names_of all

-- Each row of the table has its entry, with its calls: its path is the entry's name with an index below each count.
abbrev pub RowsHaveEntries : Type 0
RowsHaveEntries = (device : Device) → IsUnfolded device → AllByRecursion (HasEntry (table_surface (device_rows device))) (table_of (device_rows device))

-- For each entry of a register, and all indexes below its counts, the table has a row of that path with just the entry's calls.
abbrev pub EntriesHaveRows : Type 0
EntriesHaveRows = (device : Device) → IsUnfolded device → AllByRecursion (HasRows (table_of (device_rows device))) (table_surface (device_rows device))

-- A walk of the description's tree meets the entries of the surface.
abbrev pub SurfaceByWalk : Type 0
SurfaceByWalk = (device : Device) → IsUnfolded device → table_surface (device_rows device) ≡ entries_of_peripherals device.props (device_tree device).below
