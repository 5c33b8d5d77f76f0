-- From what each stage over a description leaves to what its files come to.
use Rattle.std.proofs.Common.{ℕ, ◌≡◌, ◌⊎◌, List, [], Option, Some, None, Ok, Err, inl, inr, refl, sym, ap, ap₂, subst, ◌∙◌}
use Rattle.derive_from.specs.Refusals.{IsRefused as IsUnderived, told_fault}
use Rattle.derive_from.specs.declared.fault.DeriveFault.{DeriveFault as ToldFault}
use Rattle.derived_rows.specs.Deriving.{derived_rows}
use Rattle.derived_rows.specs.Faults.{Fault as DeriveFault, missing_parent, derive_cycle, too_deep, too_many as too_many_derived, IsFault, IsFaultless}
use Rattle.dim_expand.specs.declared.fault.DimFault.{DimFault}
use Rattle.dim_expand.specs.declared.fault.DimFault.TheVariants as dim
use Rattle.dim_expand.specs.declared.fault.Cause.TheVariants.{Zero, TooLong, NoMark, IndexCount}
use Rattle.dim_expand.specs.Faults.{first_fault, IsFirst as IsFirstDim}
use Rattle.dim_expand.specs.Unfolding.{unfolded_rows}
use Rattle.overlap_check.specs.Told.{faults, first_of, IsFirst}
use Rattle.overlap_check.specs.declared.fault.CheckFault.{CheckFault}
use Rattle.overlap_check.specs.declared.fault.CheckFault.TheVariants as check
use Rattle.patch_model.specs.Acts.{Order}
use Rattle.patch_model.specs.Answers.{IsRefused as IsMiscommanded}
use Rattle.patch_model.specs.Readings.{Reading as PatchReading, no_block, no_commands, commanded, IsReadAs}
use Rattle.patch_model.specs.declared.fault.CommandFault.{CommandFault}
use Rattle.patch_model.specs.declared.fault.CommandFault.TheVariants as command
use Rattle.patch_sem.specs.Patching.{patched}
use Rattle.patch_sem.specs.declared.fault.PatchFault.{PatchFault}
use Rattle.patch_sem.specs.declared.fault.PatchFault.TheVariants as patch
use Rattle.svd_model.specs.Keys.{Key}
use Rattle.svd_model.specs.Steps.{Step}
use Rattle.svd_model.specs.declared.counted.Counted.TheVariants.{Elements}
use Rattle.svd_reader.specs.Described.{Answer as Reading, described, HasAnswer}
use Rattle.svd_keys.specs.declared.fault.Fault.TheVariants as keys
use Rattle.svd_reader.specs.Refusals.{OrMemory, Refuses}
use Rattle.svd_reader.specs.declared.fault.SvdFault.{SvdFault}
use Rattle.svd_reader.specs.declared.fault.SvdFault.TheVariants as svd
use Rattle.svd_rows.specs.Rows.{Row}
use Rattle.yaml_block.specs.Answers.{IsBlock, IsRefused as IsMisspelled}
use Rattle.yaml_block.specs.Trees.{Tree}
use Rattle.yaml_block.specs.declared.fault.BlockFault.{BlockFault}
use Rattle.yaml_block.specs.declared.fault.BlockFault.TheVariants as block
use Rattle.pac_fault.specs.Classes.{Class, no_memory, bad_words, bad_read, bad_write, bad_bus, long_file, bad_input, class_of}
use Rattle.pac_fault.specs.Layers.{of_reading, of_block, of_commands, of_patching, of_deriving, of_unfolding, of_checking}
use Rattle.pac_fault.specs.declared.fault.PacFault.{PacFault}
use Rattle.pac_fault.specs.declared.fault.PacFault.TheVariants.{Check}
use Rattle.pac_cli.specs.Resolving.{Unresolved, no_description, nests_too_deep, misdescribed, too_many, underived, misdimensioned, fails_check, Resolution, stopped, resolved, then_by, by_reading, by_outcome, by_patching, by_deriving, dim_stops, by_unfolding, by_checking, resolution_of, SourceBytes, WherePassed, IsPatch, IsJudged, ComeTo, misformed_patch, misspelled_patch, patch_stops, unpatched}
use Rattle.pac_cli.specs.Showing.{ShowsUnresolved}
use Rattle.pac_cli.specs.Stages.{PatchComesTo, PatchesNot, ReadsNot, ResolvesNot, TellsUncommanded}

abbrev pub Rows : Type 0
Rows = List (Row Step Key)

-- ---- reading

stops_read : (source : SourceBytes) (reading : Reading) (why : Unresolved) → HasAnswer source.svd reading → by_reading reading ≡ stopped why → ComeTo source (stopped why)
unfolding resolution_of
stops_read source reading why has is = record {
  reading = reading;
  read = has;
  patch = None;
  spelled = subst (WherePassed (λ all. IsPatch source.patch None)) (sym is) tt;
  fault = None;
  judged = subst (λ (come : Resolution). WherePassed (IsJudged None) (then_by (by_patching None) come)) (sym is) tt;
  comes = ap (λ (come : Resolution). resolution_of source.policy None (then_by (by_patching None) come)) (sym is);
}

-- the bytes aren't a description
pub not_described : (source : SourceBytes) (fault : SvdFault) → OrMemory fault (Refuses source.svd fault) → ResolvesNot (class_of (of_reading fault)) source (of_reading fault)
unfolding by_reading
not_described source (svd.Syntax at) h = (no_description, stops_read source h.0 _ h.1 (ap by_reading h.2), (at, refl))
not_described source (svd.TooDeep span) h = (nests_too_deep (span.start, span.end), stops_read source h.0 _ h.1 (ap by_reading h.2), (span, refl, refl))
not_described source (svd.UnknownElement span) h = (misdescribed (keys.UnknownElement span), stops_read source h.0 _ h.1 (ap by_reading h.2), (svd.UnknownElement span, refl, refl))
not_described source (svd.DoubleElement span) h = (misdescribed (keys.DoubleElement span), stops_read source h.0 _ h.1 (ap by_reading h.2), (svd.DoubleElement span, refl, refl))
not_described source (svd.DoubleName span) h = (misdescribed (keys.DoubleName span), stops_read source h.0 _ h.1 (ap by_reading h.2), (svd.DoubleName span, refl, refl))
not_described source (svd.BadValue span kind) h = (misdescribed (keys.BadValue span kind), stops_read source h.0 _ h.1 (ap by_reading h.2), (svd.BadValue span kind, refl, refl))
not_described source (svd.MissingElement span key) h =
    (misdescribed (keys.MissingElement span h.2.0), stops_read source h.0 _ h.1 (ap by_reading h.2.1), (svd.MissingElement span key, (h.2.0, refl, h.2.2), refl))
not_described source (svd.TooMany kind count) h =
    (too_many kind count, stops_read source h.0 _ h.1 (ap by_reading h.2.1 ∙ ap₂ (λ k n. stopped (too_many k n)) (sym h.2.2) (sym h.2.3)), refl)
not_described source svd.Memory h = refl

-- ---- patching

module _ (all : Rows) (bytes : List ℕ) (orders : List Order) (read : IsReadAs bytes (commanded orders)) where
  stops_patched : (fault : PatchFault) (why : Unresolved) → patched orders all ≡ Err fault → stopped (patch_stops fault) ≡ stopped why → PatchComesTo all (Some bytes) (stopped why)
  unfolding by_patching
  stops_patched fault why is stops = record { reading = Some (commanded orders); spelled = read; comes = ap by_outcome is ∙ stops }

  -- a command can't be carried out
  refused_patch : (fault : PatchFault) → patched orders all ≡ Err fault → PatchesNot (class_of (of_patching fault)) all (Some bytes) (of_patching fault)
  refused_patch (patch.NoMatch line) is = (unpatched (patch.NoMatch line), stops_patched _ _ is refl, refl)
  refused_patch (patch.AddExists line name) is = (unpatched (patch.AddExists line name), stops_patched _ _ is refl, refl)
  refused_patch (patch.CopyMissing line name) is = (unpatched (patch.CopyMissing line name), stops_patched _ _ is refl, refl)
  refused_patch (patch.Incomplete line key) is = (unpatched (patch.Incomplete line key), stops_patched _ _ is refl, refl)
  refused_patch (patch.StripClash line one other) is = (unpatched (patch.StripClash line one other), stops_patched _ _ is refl, refl)
  refused_patch (patch.ArrayUneven line one other) is = (unpatched (patch.ArrayUneven line one other), stops_patched _ _ is refl, refl)
  refused_patch (patch.ArrayUnlike line one other) is = (unpatched (patch.ArrayUnlike line one other), stops_patched _ _ is refl, refl)
  refused_patch (patch.TooMany kind count) is = (too_many kind count, stops_patched _ _ is refl, refl)
  refused_patch patch.Memory is = refl

  -- or memory was wanting
  pub not_patched : (fault : PatchFault) → (fault ≡ patch.Memory) ⊎ (patched orders all ≡ Err fault) → PatchesNot (class_of (of_patching fault)) all (Some bytes) (of_patching fault)
  not_patched fault (inl memory) = subst (λ (f : PatchFault). PatchesNot (class_of (of_patching f)) all (Some bytes) (of_patching f)) (sym memory) refl
  not_patched fault (inr is) = refused_patch fault is

  pub was_patched : (made : Rows) → patched orders all ≡ Ok made → PatchComesTo all (Some bytes) (resolved made)
  unfolding by_patching
  was_patched made is = record { reading = Some (commanded orders); spelled = read; comes = ap by_outcome is }

-- the bytes of a patch come to no commands
pub not_commanded : (all : Rows) (bytes : List ℕ) (class : Class) (fault : PacFault) → ReadsNot class bytes fault → PatchesNot class all (Some bytes) fault
unfolding by_patching
not_commanded all bytes no_memory fault h = h
not_commanded all bytes bad_words fault h = absurd h
not_commanded all bytes (bad_read name) fault h = absurd h
not_commanded all bytes bad_write fault h = absurd h
not_commanded all bytes (bad_bus done) fault h = absurd h
not_commanded all bytes (long_file name limit) fault h = absurd h
not_commanded all bytes bad_input fault h = uncommanded h.0 h.1 h.2
  where
    uncommanded : (reading : PatchReading) → IsReadAs bytes reading → TellsUncommanded reading fault → PatchesNot bad_input all (Some bytes) fault
    uncommanded (no_block found) read told = (misspelled_patch found, record { reading = Some (no_block found); spelled = read; comes = refl }, told)
    uncommanded (no_commands found) read told = (misformed_patch found, record { reading = Some (no_commands found); spelled = read; comes = refl }, told)
    uncommanded (commanded orders) read told = absurd told

-- no patch
pub unpatched_rows : (all : Rows) → PatchComesTo all None (resolved all)
unfolding by_patching
unpatched_rows all = record { reading = None; spelled = tt; comes = refl }

-- ---- the bytes of a patch

pub no_block_text : (bytes : List ℕ) (fault : BlockFault) → IsMisspelled bytes fault → ReadsNot (class_of (of_block fault)) bytes (of_block fault)
no_block_text bytes (block.Syntax line) h = (no_block (block.Syntax line), h, refl)
no_block_text bytes (block.TooDeep line) h = (no_block (block.TooDeep line), h, refl)
no_block_text bytes (block.DoubleKey line) h = (no_block (block.DoubleKey line), h, refl)
no_block_text bytes block.Memory h = refl

pub no_patch_commands : (bytes : List ℕ) (tree : Tree) (fault : CommandFault) → IsBlock bytes tree → IsMiscommanded tree fault → ReadsNot (class_of (of_commands fault)) bytes (of_commands fault)
no_patch_commands bytes tree (command.UnknownCommand line) read h = (no_commands (command.UnknownCommand line), (tree, read, h), refl)
no_patch_commands bytes tree (command.UnknownKey line) read h = (no_commands (command.UnknownKey line), (tree, read, h), refl)
no_patch_commands bytes tree (command.BadValue line) read h = (no_commands (command.BadValue line), (tree, read, h), refl)
no_patch_commands bytes tree (command.BadPattern line) read h = (no_commands (command.BadPattern line), (tree, read, h), refl)
no_patch_commands bytes tree command.Memory read h = refl

-- the patch can't be carried out
pub patching_stops : (source : SourceBytes) (read : Rows) (why : Unresolved) → HasAnswer source.svd (described read) → PatchComesTo read source.patch (stopped why) → ComeTo source (stopped why)
unfolding resolution_of by_reading
patching_stops source read why has patched = record {
  reading = described read;
  read = has;
  patch = patched.reading;
  spelled = patched.spelled;
  fault = None;
  judged = subst (WherePassed (IsJudged None)) (sym patched.comes) tt;
  comes = ap (λ come. resolution_of source.policy None come) (sym patched.comes);
}

not_patched_by : (class : Class) (source : SourceBytes) (read : Rows) (fault : PacFault) → HasAnswer source.svd (described read) → PatchesNot class read source.patch fault → ResolvesNot class source fault
not_patched_by no_memory source read fault has h = h
not_patched_by bad_words source read fault has h = absurd h
not_patched_by (bad_read name) source read fault has h = absurd h
not_patched_by bad_write source read fault has h = absurd h
not_patched_by (bad_bus done) source read fault has h = absurd h
not_patched_by (long_file name limit) source read fault has h = absurd h
not_patched_by bad_input source read fault has h = (h.0, patching_stops source read h.0 has h.1, h.2)

-- or memory was wanting
pub patching_refused : (source : SourceBytes) (read : Rows) (fault : PacFault) → HasAnswer source.svd (described read) → PatchesNot (class_of fault) read source.patch fault → ResolvesNot (class_of fault) source fault
patching_refused source read fault has h = not_patched_by (class_of fault) source read fault has h

-- ---- the stages behind it

abbrev pub Derives : Rows → Rows → Type 0
Derives read derived = (derived ≡ derived_rows read) × IsFaultless read

abbrev pub Unfolds : Rows → Rows → Type 0
Unfolds derived made = (made ≡ unfolded_rows derived) × (first_fault derived ≡ None)

derives_to : (read derived : Rows) → Derives read derived → by_deriving None read ≡ resolved derived
unfolding by_deriving
derives_to read derived h = rw h.0 refl

unfolds_to : (derived made : Rows) → Unfolds derived made → by_unfolding derived ≡ resolved made
unfolding by_unfolding
unfolds_to derived made h = rw (h.1, h.0) refl

module _ (source : SourceBytes) (read left : Rows) (has : HasAnswer source.svd (described read)) (patched : PatchComesTo read source.patch (resolved left)) where
  -- what a description that was read and patched comes to, where deriving has this fault or none
  comes_to : (fault : Option DeriveFault) (resolution : Resolution) → IsJudged fault left
      → resolution ≡ then_by (by_checking source.policy) (then_by by_unfolding (by_deriving fault left)) → ComeTo source resolution
  unfolding resolution_of by_reading
  comes_to fault resolution judged is = record {
    reading = described read;
    read = has;
    patch = patched.reading;
    spelled = patched.spelled;
    fault = fault;
    judged = subst (WherePassed (IsJudged fault)) (sym patched.comes) judged;
    comes = is ∙ ap (λ (come : Resolution). resolution_of source.policy fault come) (sym patched.comes);
  }

  -- a source is missing, a circle stands, or there are too many steps or elements
  stops_derived : (found : DeriveFault) → IsFault left found → ResolvesNot (class_of (of_deriving (told_fault found))) source (of_deriving (told_fault found))
  unfolding by_deriving
  stops_derived (missing_parent path names) is = (underived (missing_parent path names), comes_to (Some (missing_parent path names)) _ is refl, refl)
  stops_derived (derive_cycle path) is = (underived (derive_cycle path), comes_to (Some (derive_cycle path)) _ is refl, refl)
  stops_derived (too_deep path) is = (underived (too_deep path), comes_to (Some (too_deep path)) _ is refl, refl)
  stops_derived (too_many_derived count) is = (too_many Elements count, comes_to (Some (too_many_derived count)) _ is refl, refl)

  -- or memory was wanting
  pub not_derived : (fault : ToldFault) → IsUnderived left fault → ResolvesNot (class_of (of_deriving fault)) source (of_deriving fault)
  not_derived fault (inl memory) = subst (λ (f : ToldFault). ResolvesNot (class_of (of_deriving f)) source (of_deriving f)) (sym memory) refl
  not_derived fault (inr found) = subst (λ (f : ToldFault). ResolvesNot (class_of (of_deriving f)) source (of_deriving f)) (sym found.2) (stops_derived found.0 found.1)

  -- a dimension or a count is at fault
  dim_stopped : (derived : Rows) (fault : DimFault) (why : Unresolved) → Derives left derived → first_fault derived ≡ Some fault → dim_stops fault ≡ Some why → ComeTo source (stopped why)
  unfolding by_unfolding
  dim_stopped derived fault why d is stops = comes_to None (stopped why) d.1 (rw (derives_to left derived d, is, stops) refl)

  pub not_unfolded : (derived : Rows) (fault : DimFault) → Derives left derived → IsFirstDim derived fault → ResolvesNot (class_of (of_unfolding fault)) source (of_unfolding fault)
  not_unfolded derived (dim.DimZero path) d is = (misdimensioned path Zero, dim_stopped derived _ _ d is refl, refl)
  not_unfolded derived (dim.DimTooLong path n) d is = (misdimensioned path (TooLong n), dim_stopped derived _ _ d is refl, refl)
  not_unfolded derived (dim.DimNoMark path) d is = (misdimensioned path NoMark, dim_stopped derived _ _ d is refl, refl)
  not_unfolded derived (dim.DimIndexCount path n given) d is = (misdimensioned path (IndexCount n given), dim_stopped derived _ _ d is refl, refl)
  not_unfolded derived (dim.TooMany kind count) d is = (too_many kind count, dim_stopped derived _ _ d is refl, refl)
  not_unfolded derived dim.Memory d is = refl

  -- the whole is at fault
  check_stopped : (derived made : Rows) (fault : CheckFault) → Derives left derived → Unfolds derived made → first_of (faults source.policy made) ≡ Some fault
      → (why : Unresolved) × ComeTo source (stopped why) × ShowsUnresolved why (Check fault)
  unfolding by_checking
  check_stopped derived made fault d u is =
      (fails_check fault, comes_to None (stopped (fails_check fault)) d.1 (rw (derives_to left derived d, unfolds_to derived made u, is) refl), refl)

  -- or memory was wanting
  pub not_checked : (derived made : Rows) (fault : CheckFault) → Derives left derived → Unfolds derived made → IsFirst (faults source.policy made) fault
      → ResolvesNot (class_of (of_checking fault)) source (of_checking fault)
  not_checked derived made (check.BadWidth path) d u is = check_stopped derived made _ d u is
  not_checked derived made (check.AddressRange path) d u is = check_stopped derived made _ d u is
  not_checked derived made (check.Misaligned path) d u is = check_stopped derived made _ d u is
  not_checked derived made (check.FieldRange path) d u is = check_stopped derived made _ d u is
  not_checked derived made (check.FieldOverlap one other) d u is = check_stopped derived made _ d u is
  not_checked derived made (check.RegisterOverlap one other) d u is = check_stopped derived made _ d u is
  not_checked derived made (check.NameClash one other) d u is = check_stopped derived made _ d u is
  not_checked derived made check.Memory d u is = refl

  -- all stages were passed
  pub was_resolved : (derived made checked : Rows) → Derives left derived → Unfolds derived made → checked ≡ made → faults source.policy made ≡ [] → ComeTo source (resolved checked)
  unfolding by_checking
  was_resolved derived made checked d u same none =
      comes_to None (resolved checked) d.1 (rw (derives_to left derived d, unfolds_to derived made u, none, same) refl)
