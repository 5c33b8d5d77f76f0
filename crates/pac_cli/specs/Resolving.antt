-- What the files of a description come to: reading, patching, deriving, unfolding and checking one after the other, of which the first
-- that finds a fault stops the rest, or the rows that they leave. Overlaps are faults where the words ask for it. This project's own order.
use Rattle.std.specs.Prelude.{◌≡◌, ◌≤◌, ℕ, List, [], ◌∷◌, length, Option, Some, None, IfSome, Ok, Err, option_map, option_and_then, if◌then◌else◌, ⊤}
use Rattle.pac_base.specs.declared.path.Step.{Step as NamedStep}
use Rattle.derived_rows.specs.Deriving.{derived_rows}
use Rattle.derived_rows.specs.Faults.{Fault as DeriveFault, IsFault, IsFaultless, too_many as too_many_derived}
use Rattle.dim_expand.specs.declared.fault.Cause.{Cause as DimCause}
use Rattle.dim_expand.specs.declared.fault.Cause.TheVariants.{Zero, TooLong, NoMark, IndexCount}
use Rattle.dim_expand.specs.declared.fault.DimFault.{DimFault}
use Rattle.dim_expand.specs.declared.fault.DimFault.TheVariants as dim
use Rattle.dim_expand.specs.Faults.{first_fault}
use Rattle.dim_expand.specs.Unfolding.{unfolded_rows}
use Rattle.overlap_check.specs.Told.{faults, first_of}
use Rattle.overlap_check.specs.declared.fault.CheckFault.{CheckFault}
use Rattle.overlap_check.specs.declared.fault.Policy.{Policy}
use Rattle.overlap_check.specs.declared.fault.Policy.TheVariants.{Loose, Strict}
use Rattle.pac_cli.specs.declared.source.Description.{Description}
use Rattle.pac_words.specs.declared.command.Source.{Source}
use Rattle.patch_model.specs.Readings.{Reading as PatchReading, no_block, no_commands, commanded, IsReadAs}
use Rattle.patch_model.specs.declared.fault.CommandFault.{CommandFault}
use Rattle.patch_sem.specs.Patching.{patched}
use Rattle.patch_sem.specs.Steps.{Outcome}
use Rattle.patch_sem.specs.declared.fault.PatchFault.{PatchFault}
use Rattle.patch_sem.specs.declared.fault.PatchFault.TheVariants as patch
use Rattle.svd_keys.specs.declared.fault.Fault.{Fault as KeyFault}
use Rattle.svd_model.specs.Counting.{told_count}
use Rattle.svd_model.specs.declared.counted.Counted.{Counted}
use Rattle.svd_model.specs.declared.counted.Counted.TheVariants.{Elements}
use Rattle.svd_model.specs.Keys.{Key}
use Rattle.svd_model.specs.Steps.{Step}
use Rattle.svd_reader.specs.Described.{Answer as Reading, no_text, too_deep, at_fault, too_many as too_many_read, described, HasAnswer}
use Rattle.svd_rows.specs.Rows.{Row}
use Rattle.yaml_block.specs.declared.fault.BlockFault.{BlockFault}

-- Why a description comes to no rows. The byte at which a text stops being one is no part of it.
pub data Unresolved : Type 0 where
  no_description : Unresolved
  nests_too_deep : (name : ℕ × ℕ) → Unresolved
  misdescribed : KeyFault → Unresolved
  misspelled_patch : BlockFault → Unresolved
  misformed_patch : CommandFault → Unresolved
  unpatched : PatchFault → Unresolved
  too_many : Counted → (count : ℕ) → Unresolved
  underived : DeriveFault → Unresolved
  misdimensioned : (path : List NamedStep) → DimCause → Unresolved
  fails_check : CheckFault → Unresolved

-- what a description comes to
pub data Resolution : Type 0 where
  stopped : Unresolved → Resolution
  resolved : List (Row Step Key) → Resolution

-- a stage behind those that came to this
abbrev pub then_by : (List (Row Step Key) → Resolution) → Resolution → Resolution
then_by stage (stopped why) = stopped why
then_by stage (resolved all) = stage all

-- these rows, unless something stops them
abbrev pub unless : Option Unresolved → List (Row Step Key) → Resolution
unless (Some why) all = stopped why
unless None all = resolved all

-- the description is read
unfoldable pub by_reading : Reading → Resolution
by_reading no_text = stopped no_description
by_reading (too_deep name) = stopped (nests_too_deep name)
by_reading (at_fault fault) = stopped (misdescribed fault)
by_reading (too_many_read elements) = stopped (too_many Elements (told_count elements))
by_reading (described all) = resolved all

-- what a fault of a command stops with
abbrev pub patch_stops : PatchFault → Unresolved
patch_stops (patch.TooMany kind count) = too_many kind count
patch_stops fault = unpatched fault

-- what the commands of a patch leave
abbrev pub by_outcome : Outcome (List (Row Step Key)) → Resolution
by_outcome (Ok all) = resolved all
by_outcome (Err fault) = stopped (patch_stops fault)

-- a patch is carried out, where there is one, by what its bytes come to
unfoldable pub by_patching : Option PatchReading → List (Row Step Key) → Resolution
by_patching None all = resolved all
by_patching (Some (no_block fault)) all = stopped (misspelled_patch fault)
by_patching (Some (no_commands fault)) all = stopped (misformed_patch fault)
by_patching (Some (commanded orders)) all = by_outcome (patched orders all)

-- what a fault of deriving stops with
abbrev pub derive_stops : DeriveFault → Unresolved
derive_stops (too_many_derived count) = too_many Elements count
derive_stops fault = underived fault

-- each element takes what it doesn't state from its source, unless deriving has this fault
unfoldable pub by_deriving : Option DeriveFault → List (Row Step Key) → Resolution
by_deriving (Some fault) all = stopped (derive_stops fault)
by_deriving None all = resolved (derived_rows all)

-- what a fault of unfolding stops with; want of memory is decided by nothing
abbrev pub dim_stops : DimFault → Option Unresolved
dim_stops (dim.DimZero path) = Some (misdimensioned path Zero)
dim_stops (dim.DimTooLong path members) = Some (misdimensioned path (TooLong members))
dim_stops (dim.DimNoMark path) = Some (misdimensioned path NoMark)
dim_stops (dim.DimIndexCount path members given) = Some (misdimensioned path (IndexCount members given))
dim_stops (dim.TooMany kind count) = Some (too_many kind count)
dim_stops dim.Memory = None

-- each list is unfolded
unfoldable pub by_unfolding : List (Row Step Key) → Resolution
by_unfolding all = unless (option_and_then dim_stops (first_fault all)) (unfolded_rows all)

-- the whole is checked, for the faults that are asked for
unfoldable pub by_checking : Policy → List (Row Step Key) → Resolution
by_checking policy all = unless (option_map fails_check (first_of (faults policy all))) all

-- what reading and patching come to
abbrev pub patched_to : Option PatchReading → Reading → Resolution
patched_to patch reading = then_by (by_patching patch) (by_reading reading)

-- the stages behind those that came to this, where deriving has this fault or none
unfoldable pub resolution_of : Policy → Option DeriveFault → Resolution → Resolution
resolution_of policy fault before = then_by (by_checking policy) (then_by by_unfolding (then_by (by_deriving fault) before))

-- which faults are asked for: overlaps too where the words say so
abbrev pub policy_of : Source → Policy
policy_of source = if source.strict then Strict else Loose

-- the bytes of the files that a description comes from, and which faults are asked for
pub record SourceBytes : Type 0 where
  pub svd : List ℕ
  pub patch : Option (List ℕ)
  pub policy : Policy

-- those of the description that the words name
abbrev pub bytes_of : Source → List ℕ → Option (List ℕ) → SourceBytes
bytes_of source svd patch = record { svd = svd; patch = patch; policy = policy_of source }

-- those of a description, of which these are the files: the second is its patch
abbrev pub bytes_from : Source → List (List ℕ) → Option SourceBytes
bytes_from source (svd ∷ []) = Some (bytes_of source svd None)
bytes_from source (svd ∷ patch ∷ []) = Some (bytes_of source svd (Some patch))
bytes_from source _ = None

-- those that are handed in
abbrev pub bytes_in : Description → SourceBytes
bytes_in given = record { svd = given.svd.now; patch = option_map (λ bytes. bytes.now) given.patch; policy = given.policy }

-- how many bytes a description, a patch or a script may have: 64 MiB
abbrev pub longest : ℕ
longest = 67108864

-- the files are as long as they may be
pub record FitsLimits (source : SourceBytes) : Type 0 where
  pub svd : length source.svd ≤ longest
  pub patch : IfSome source.patch (λ bytes. length bytes ≤ longest)

-- something that is so of the rows, where there are any
abbrev pub WherePassed : (List (Row Step Key) → Type 0) → Resolution → Type 0
WherePassed OfRows (stopped why) = ⊤
WherePassed OfRows (resolved all) = OfRows all

-- the bytes of a patch come to this, where there is one
abbrev pub IsPatch : Option (List ℕ) → Option PatchReading → Type 0
IsPatch None None = ⊤
IsPatch (Some bytes) (Some reading) = IsReadAs bytes reading
IsPatch _ _ = ⊥

-- deriving the rows has this fault, or none
abbrev pub IsJudged : Option DeriveFault → List (Row Step Key) → Type 0
IsJudged None all = IsFaultless all
IsJudged (Some fault) all = IsFault all fault

-- The files come to this. The patch is read where the description was, and deriving judged where the patch was carried out.
pub record ComeTo (source : SourceBytes) (resolution : Resolution) : Type 0 where
  pub reading : Reading
  pub read : HasAnswer source.svd reading
  pub patch : Option PatchReading
  pub spelled : WherePassed (λ all. IsPatch source.patch patch) (by_reading reading)
  pub fault : Option DeriveFault
  pub judged : WherePassed (IsJudged fault) (patched_to patch reading)
  pub comes : resolution ≡ resolution_of source.policy fault (patched_to patch reading)
