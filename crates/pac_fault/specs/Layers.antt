-- The faults of the layers as those of the whole call: want of memory is one fault wherever it comes from, and a count
-- that passes its limit is one too.
use Rattle.derive_from.specs.declared.fault.DeriveFault.{DeriveFault}
use Rattle.derive_from.specs.declared.fault.DeriveFault.TheVariants as derive
use Rattle.dim_expand.specs.declared.fault.DimFault.{DimFault}
use Rattle.dim_expand.specs.declared.fault.DimFault.TheVariants as dim
use Rattle.frag_parse.specs.declared.fault.ParseFault.{ParseFault}
use Rattle.frag_parse.specs.declared.fault.ParseFault.TheVariants as parse
use Rattle.frag_script.specs.declared.fault.ScriptFault.{ScriptFault}
use Rattle.frag_script.specs.declared.fault.ScriptFault.TheVariants as script
use Rattle.frag_types.specs.declared.fault.CrateFault.{CrateFault}
use Rattle.frag_types.specs.declared.fault.CrateFault.TheVariants as krate
use Rattle.overlap_check.specs.declared.fault.CheckFault.{CheckFault}
use Rattle.overlap_check.specs.declared.fault.CheckFault.TheVariants as check
use Rattle.pac_io.specs.declared.fault.SinkFault.{SinkFault}
use Rattle.pac_io.specs.declared.fault.SinkFault.TheVariants as sink
use Rattle.patch_model.specs.declared.fault.CommandFault.{CommandFault}
use Rattle.patch_model.specs.declared.fault.CommandFault.TheVariants as command
use Rattle.patch_sem.specs.declared.fault.PatchFault.{PatchFault}
use Rattle.patch_sem.specs.declared.fault.PatchFault.TheVariants as patch
use Rattle.svd_reader.specs.declared.fault.SvdFault.{SvdFault}
use Rattle.svd_reader.specs.declared.fault.SvdFault.TheVariants as svd
use Rattle.yaml_block.specs.declared.fault.BlockFault.{BlockFault}
use Rattle.yaml_block.specs.declared.fault.BlockFault.TheVariants as block
use Rattle.pac_fault.specs.declared.fault.PacFault.{PacFault}
use Rattle.pac_fault.specs.declared.fault.PacFault.TheVariants.{Memory, Write, Svd, Block, Command, Patch, Derive, Dim, Check, CrateText, Script, Limit}
use Rattle.pac_fault.specs.declared.fault.LimitFault.TheVariants.{ScriptTooLong, TooMany}

abbrev pub of_reading : SvdFault → PacFault
of_reading svd.Memory = Memory
of_reading (svd.TooMany kind count) = Limit (TooMany kind count)
of_reading fault = Svd fault

abbrev pub of_block : BlockFault → PacFault
of_block block.Memory = Memory
of_block fault = Block fault

abbrev pub of_commands : CommandFault → PacFault
of_commands command.Memory = Memory
of_commands fault = Command fault

abbrev pub of_patching : PatchFault → PacFault
of_patching patch.Memory = Memory
of_patching (patch.TooMany kind count) = Limit (TooMany kind count)
of_patching fault = Patch fault

abbrev pub of_deriving : DeriveFault → PacFault
of_deriving derive.Memory = Memory
of_deriving (derive.TooMany kind count) = Limit (TooMany kind count)
of_deriving fault = Derive fault

abbrev pub of_unfolding : DimFault → PacFault
of_unfolding dim.Memory = Memory
of_unfolding (dim.TooMany kind count) = Limit (TooMany kind count)
of_unfolding fault = Dim fault

abbrev pub of_checking : CheckFault → PacFault
of_checking check.Memory = Memory
of_checking fault = Check fault

abbrev pub of_writing : SinkFault → PacFault
of_writing sink.Memory = Memory
of_writing sink.Failed = Write

abbrev pub of_parsing : ParseFault → PacFault
of_parsing (parse.Syntax at) = CrateText (krate.Syntax at)
of_parsing (parse.TooDeep at) = CrateText (krate.TooDeep at)
of_parsing parse.Memory = Memory

abbrev pub of_typing : CrateFault → PacFault
of_typing krate.Memory = Memory
of_typing fault = CrateText fault

-- a script that isn't read, or doesn't type
abbrev pub of_script : ScriptFault → PacFault
of_script (script.TooLong count) = Limit (ScriptTooLong count)
of_script script.Memory = Memory
of_script fault = Script fault
