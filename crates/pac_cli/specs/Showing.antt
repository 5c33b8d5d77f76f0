-- How the cause of a refusal shows in the fault that is answered. This project's own rule.
use Rattle.std.specs.Prelude.{ℕ, ◌≡◌, Option, Some, None}
use Rattle.derive_from.specs.Refusals.{told_fault}
use Rattle.dim_expand.specs.Faults.{fault_of}
use Rattle.frag_types.specs.Refusals.{crate_kind, script_kind}
use Rattle.frag_script.specs.declared.fault.ScriptFault.TheVariants as script
use Rattle.frag_script.specs.declared.fault.ScriptTyping.{ScriptTyping}
use Rattle.frag_types.specs.declared.fault.CrateFault.TheVariants as krate
use Rattle.frag_types.specs.declared.fault.CrateTyping.{CrateTyping}
use Rattle.pac_base.specs.declared.span.Span.{Span}
use Rattle.svd_reader.specs.Described.{at_fault}
use Rattle.svd_reader.specs.Refusals.{Tells}
use Rattle.svd_reader.specs.declared.fault.SvdFault.{SvdFault}
use Rattle.svd_reader.specs.declared.fault.SvdFault.TheVariants as svd
use Rattle.pac_fault.specs.declared.fault.PacFault.{PacFault}
use Rattle.pac_fault.specs.declared.fault.PacFault.TheVariants.{Words, Svd, Block, Command, Patch, Derive, Dim, Check, CrateText, Script, Limit}
use Rattle.pac_fault.specs.declared.fault.WordsFault.TheVariants.{BadNumber, Clap, NoBus}
use Rattle.pac_fault.specs.declared.fault.LimitFault.TheVariants.{FileTooLong, ScriptTooLong, TooMany}
use Rattle.pac_cli.specs.Answers.{Cause, no_command, bad_number, no_bus, file_too_long, unresolved, no_crate_text, no_script}
use Rattle.pac_cli.specs.Resolving.{Unresolved, no_description, nests_too_deep, misdescribed, misspelled_patch, misformed_patch, unpatched, too_many, underived, misdimensioned, fails_check}
use Rattle.pac_cli.specs.Scripts.{Untyped, no_crate, modules_too_deep, misfits, Unscripted, no_statement, too_many_statements, mistyped}

-- why a description comes to no rows, as a fault
abbrev pub ShowsUnresolved : Unresolved → PacFault → Type 0
ShowsUnresolved no_description fault = (at : ℕ) × (fault ≡ Svd (svd.Syntax at))
ShowsUnresolved (nests_too_deep name) fault = (span : Span) × (name ≡ (span.start, span.end)) × (fault ≡ Svd (svd.TooDeep span))
ShowsUnresolved (misdescribed found) fault = (told : SvdFault) × Tells told (at_fault found) × (fault ≡ Svd told)
ShowsUnresolved (misspelled_patch found) fault = fault ≡ Block found
ShowsUnresolved (misformed_patch found) fault = fault ≡ Command found
ShowsUnresolved (unpatched found) fault = fault ≡ Patch found
ShowsUnresolved (too_many kind count) fault = fault ≡ Limit (TooMany kind count)
ShowsUnresolved (underived found) fault = fault ≡ Derive (told_fault found)
ShowsUnresolved (misdimensioned path cause) fault = fault ≡ Dim (fault_of path cause)
ShowsUnresolved (fails_check found) fault = fault ≡ Check found

-- why a crate text comes to no crate that fits, as a fault
abbrev pub ShowsUntyped : Untyped → PacFault → Type 0
ShowsUntyped no_crate fault = (at : ℕ) × (fault ≡ CrateText (krate.Syntax at))
ShowsUntyped modules_too_deep fault = (at : ℕ) × (fault ≡ CrateText (krate.TooDeep at))
ShowsUntyped (misfits kind) fault = (at : ℕ) × (shown : CrateTyping) × (crate_kind shown ≡ kind) × (fault ≡ CrateText (krate.Typing at shown))

-- why a script isn't run, as a fault
abbrev pub ShowsUnscripted : Unscripted → PacFault → Type 0
ShowsUnscripted (no_statement line) fault = fault ≡ Script (script.Syntax line)
ShowsUnscripted (too_many_statements count) fault = fault ≡ Limit (ScriptTooLong count)
ShowsUnscripted (mistyped found) fault = (shown : ScriptTyping) × (script_kind shown ≡ found.kind) × (fault ≡ Script (script.Typing found.line shown))

-- the cause shows in the fault
abbrev pub Shows : Cause → PacFault → Type 0
Shows no_command fault = fault ≡ Words Clap
Shows bad_number fault = fault ≡ Words BadNumber
Shows (no_bus kind) fault = fault ≡ Words (NoBus kind)
Shows (file_too_long name limit) fault = fault ≡ Limit (FileTooLong name limit)
Shows (unresolved why) fault = ShowsUnresolved why fault
Shows (no_crate_text why) fault = ShowsUntyped why fault
Shows (no_script why) fault = ShowsUnscripted why fault

-- the cause shows in what was found
abbrev pub IsShown : Cause → Option PacFault → Type 0
IsShown cause None = ⊥
IsShown cause (Some fault) = Shows cause fault
