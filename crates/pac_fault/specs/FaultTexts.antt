-- The line that tells of a fault. This project's own texts.
use Rattle.std.specs.Prelude.{ℕ, List, [], ◌∷◌, ◌++◌, codes, decimal, Option, Some, None}
use Rattle.std.specs.List.{flat_map}
use Rattle.pac_base.specs.declared.path.Step.{Step}
use Rattle.pac_base.specs.declared.span.Span.{Span}
use Rattle.derive_from.specs.declared.fault.DeriveFault.{DeriveFault}
use Rattle.derive_from.specs.declared.fault.DeriveFault.TheVariants as derive
use Rattle.dim_expand.specs.declared.fault.DimFault.{DimFault}
use Rattle.dim_expand.specs.declared.fault.DimFault.TheVariants as dim
use Rattle.frag_script.specs.declared.fault.ScriptFault.{ScriptFault}
use Rattle.frag_types.specs.declared.fault.CrateFault.{CrateFault}
use Rattle.overlap_check.specs.declared.fault.CheckFault.{CheckFault}
use Rattle.overlap_check.specs.declared.fault.CheckFault.TheVariants as check
use Rattle.pac_words.specs.declared.command.BusKind.{BusKind}
use Rattle.pac_words.specs.declared.command.BusKind.TheVariants as bus
use Rattle.svd_keys.specs.declared.fault.BadKind.{BadKind}
use Rattle.svd_keys.specs.declared.fault.BadKind.TheVariants as bad
use Rattle.svd_reader.specs.declared.fault.SvdFault.{SvdFault}
use Rattle.svd_reader.specs.declared.fault.SvdFault.TheVariants as svd
use Rattle.svd_values.specs.AccessorNames.{without_array_mark}
use Rattle.pac_fault.specs.Counts.{many_text}
use Rattle.pac_fault.specs.PatchTexts.{block_text, command_text, patch_text}
use Rattle.pac_fault.specs.FragmentTexts.{crate_text, script_text, statements_text}
use Rattle.pac_fault.specs.declared.fault.PacFault.{PacFault}
use Rattle.pac_fault.specs.declared.fault.PacFault.TheVariants.{Memory, Words, Read, Write, Bus, Svd, Block, Command, Patch, Derive, Dim, Check, CrateText, Script, Limit}
use Rattle.pac_fault.specs.declared.fault.WordsFault.{WordsFault}
use Rattle.pac_fault.specs.declared.fault.WordsFault.TheVariants.{BadNumber, Clap, NoBus}
use Rattle.pac_fault.specs.declared.fault.LimitFault.{LimitFault}
use Rattle.pac_fault.specs.declared.fault.LimitFault.TheVariants.{FileTooLong, ScriptTooLong, TooMany}

unfoldable pub kind_text : BusKind → List ℕ
kind_text bus.Zero = codes "zero"
kind_text bus.Memory = codes "memory"
kind_text bus.Device = codes "device"

unfoldable pub words_text : WordsFault → List ℕ
words_text Clap = codes "usage: pac list SVD, generate SVD, exec CRATE SCRIPT, run SVD SCRIPT or sample NUMBER COUNT, with --patch P, --strict, --bus zero or memory"
words_text BadNumber = codes "bad number"
words_text (NoBus kind) = codes "no bus of kind " ++ kind_text kind

-- ---- paths

-- an index of an array's member
abbrev pub index_text : Option ℕ → List ℕ
index_text None = []
index_text (Some index) = codes "[" ++ (decimal index ++ codes "]")

-- the written name, without the mark of an array where an index stands behind it
abbrev pub shown_name : List ℕ → Option ℕ → List ℕ
shown_name name None = name
shown_name name (Some index) = without_array_mark name

-- a step of a path: the name, and the index of a member
unfoldable pub step_text : Step → List ℕ
step_text step = shown_name step.name step.index ++ index_text step.index

-- a step behind another
abbrev pub step_behind : Step → List ℕ
step_behind step = codes "." ++ step_text step

-- the steps of a path, joined by points
unfoldable pub path_text : List Step → List ℕ
path_text [] = []
path_text (first ∷ steps) = step_text first ++ flat_map step_behind steps

-- ---- descriptions

-- where it stands: the first byte, and the byte after the last
unfoldable pub span_text : Span → List ℕ
span_text span = codes " at bytes " ++ (decimal span.start ++ (codes " to " ++ decimal span.end))

unfoldable pub bad_text : BadKind → List ℕ
bad_text bad.Number = codes "description: bad number"
bad_text bad.Word = codes "description: bad word"
bad_text bad.Name = codes "description: bad name"
bad_text bad.Place = codes "description: bad place"
bad_text bad.Index = codes "description: bad index"

unfoldable pub svd_text : SvdFault → List ℕ
svd_text (svd.Syntax at) = codes "description: syntax at byte " ++ decimal at
svd_text (svd.TooDeep span) = codes "description: nesting passes 64" ++ span_text span
svd_text (svd.UnknownElement span) = codes "description: unknown element" ++ span_text span
svd_text (svd.DoubleElement span) = codes "description: second element" ++ span_text span
svd_text (svd.DoubleName span) = codes "description: name used twice" ++ span_text span
svd_text (svd.BadValue span kind) = bad_text kind ++ span_text span
svd_text (svd.MissingElement span key) = codes "description: missing " ++ (key ++ (codes " in the element" ++ span_text span))
svd_text (svd.TooMany kind count) = many_text kind count
svd_text svd.Memory = codes "out of memory"

-- ---- the whole

-- what is wrong with the element of a path
abbrev pub at_path : List Step → List ℕ → List ℕ
at_path path said = path_text path ++ said

-- what is wrong with two elements
abbrev pub both_paths : List Step → List Step → List ℕ → List ℕ
both_paths first second said = path_text first ++ (codes " and " ++ at_path second said)

unfoldable pub check_text : CheckFault → List ℕ
check_text (check.BadWidth path) = at_path path (codes ": size is not 1 to 64")
check_text (check.AddressRange path) = at_path path (codes ": address passes 64 bits")
check_text (check.Misaligned path) = at_path path (codes ": address is not a multiple of the width")
check_text (check.FieldRange path) = at_path path (codes ": field passes the register")
check_text (check.FieldOverlap first second) = both_paths first second (codes " overlap")
check_text (check.RegisterOverlap first second) = both_paths first second (codes " overlap")
check_text (check.NameClash first second) = both_paths first second (codes " have one accessor name")
check_text check.Memory = codes "out of memory"

unfoldable pub derive_text : DeriveFault → List ℕ
derive_text (derive.MissingParent path names) = path_text path ++ (codes ": derivedFrom " ++ (path_text names ++ codes " is missing"))
derive_text (derive.DeriveCycle path) = at_path path (codes ": derivedFrom runs in a circle")
derive_text (derive.TooDeep path) = at_path path (codes ": clusters nest deeper than 64")
derive_text (derive.TooMany kind count) = many_text kind count
derive_text derive.Memory = codes "out of memory"

unfoldable pub dim_text : DimFault → List ℕ
dim_text (dim.DimZero path) = at_path path (codes ": dim is 0")
dim_text (dim.DimTooLong path members) = at_path path (codes ": dim passes 65536")
dim_text (dim.DimNoMark path) = at_path path (codes ": dim and %s must stand together")
dim_text (dim.DimIndexCount path members given) = path_text path ++ (codes ": dim is " ++ (decimal members ++ (codes " and dimIndex gives " ++ decimal given)))
dim_text (dim.TooMany kind count) = many_text kind count
dim_text dim.Memory = codes "out of memory"

unfoldable pub limit_text : LimitFault → List ℕ
limit_text (FileTooLong name limit) = name ++ (codes " is longer than " ++ (decimal limit ++ codes " bytes"))
limit_text (TooMany kind count) = many_text kind count
limit_text (ScriptTooLong count) = statements_text count

unfoldable pub text_of : PacFault → List ℕ
text_of Memory = codes "out of memory"
text_of (Words fault) = words_text fault
text_of (Read name) = codes "cannot read " ++ name
text_of Write = codes "cannot write"
text_of (Bus done) = codes "the bus failed after " ++ (decimal done ++ codes " events")
text_of (Svd fault) = svd_text fault
text_of (Block fault) = block_text fault
text_of (Command fault) = command_text fault
text_of (Patch fault) = patch_text fault
text_of (Derive fault) = derive_text fault
text_of (Dim fault) = dim_text fault
text_of (Check fault) = check_text fault
text_of (CrateText fault) = crate_text fault
text_of (Script fault) = script_text fault
text_of (Limit fault) = limit_text fault

-- the line: `pac: `, the text, and a line feed
abbrev pub fault_line : PacFault → List ℕ
fault_line fault = codes "pac: " ++ (text_of fault ++ 10 ∷ [])
