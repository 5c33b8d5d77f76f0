-- What the lines of faults say of patches. This project's own texts.
use Rattle.std.specs.Prelude.{ℕ, List, ◌++◌, codes, decimal}
use Rattle.patch_model.specs.declared.fault.CommandFault.{CommandFault}
use Rattle.patch_model.specs.declared.fault.CommandFault.TheVariants as command
use Rattle.patch_sem.specs.declared.fault.PatchFault.{PatchFault}
use Rattle.patch_sem.specs.declared.fault.PatchFault.TheVariants as patch
use Rattle.yaml_block.specs.declared.fault.BlockFault.{BlockFault}
use Rattle.yaml_block.specs.declared.fault.BlockFault.TheVariants as block
use Rattle.pac_fault.specs.Counts.{many_text}

-- what is wrong on a line, counted from 1
abbrev pub on_patch_line : ℕ → List ℕ → List ℕ
on_patch_line line said = codes "patch line " ++ (decimal line ++ (codes ": " ++ said))

-- what is wrong with two names
abbrev pub two_names : ℕ → List ℕ → List ℕ → List ℕ → List ℕ → List ℕ → List ℕ
two_names line before first between second behind = on_patch_line line (before ++ (first ++ (between ++ (second ++ behind))))

-- a file that is no block text
unfoldable pub block_text : BlockFault → List ℕ
block_text (block.Syntax line) = on_patch_line line (codes "syntax")
block_text (block.TooDeep line) = on_patch_line line (codes "nesting passes 64")
block_text (block.DoubleKey line) = on_patch_line line (codes "key used twice")
block_text block.Memory = codes "out of memory"

-- a node that is no patch
unfoldable pub command_text : CommandFault → List ℕ
command_text (command.UnknownCommand line) = on_patch_line line (codes "unknown command")
command_text (command.UnknownKey line) = on_patch_line line (codes "unknown key")
command_text (command.BadValue line) = on_patch_line line (codes "bad value")
command_text (command.BadPattern line) = on_patch_line line (codes "bad pattern")
command_text command.Memory = codes "out of memory"

-- a command that can't be carried out
unfoldable pub patch_text : PatchFault → List ℕ
patch_text (patch.NoMatch line) = on_patch_line line (codes "nothing matches")
patch_text (patch.AddExists line name) = on_patch_line line (name ++ codes " is there already")
patch_text (patch.CopyMissing line name) = on_patch_line line (name ++ codes " to copy is missing")
patch_text (patch.Incomplete line key) = on_patch_line line (codes "missing " ++ key)
patch_text (patch.StripClash line first second) = two_names line (codes "stripping makes ") first (codes " and ") second (codes " alike")
patch_text (patch.ArrayUneven line first second) = two_names line (codes "uneven step from ") first (codes " to ") second (codes "")
patch_text (patch.ArrayUnlike line first second) = two_names line (codes "") first (codes " and ") second (codes " are unlike")
patch_text (patch.TooMany kind count) = many_text kind count
patch_text patch.Memory = codes "out of memory"
