-- What the bytes of a patch come to: its commands, or the first thing that is wrong with it, as block text and then as a patch.
use Rattle.std.specs.Prelude.{ℕ, List, Ok, Err}
use Rattle.patch_model.specs.Acts.{Order}
use Rattle.patch_model.specs.Answers.{AreOrders, IsRefused}
use Rattle.patch_model.specs.declared.fault.CommandFault.{CommandFault}
use Rattle.patch_model.specs.declared.fault.CommandFault.TheVariants as command
use Rattle.yaml_block.specs.Answers.{IsFound}
use Rattle.yaml_block.specs.Trees.{Tree}
use Rattle.yaml_block.specs.declared.fault.BlockFault.{BlockFault}

pub data Reading : Type 0 where
  no_block : BlockFault → Reading
  no_commands : CommandFault → Reading
  commanded : List Order → Reading

-- the node isn't that of a patch; of want of memory nothing is said
abbrev pub IsMisformed : Tree → CommandFault → Type 0
IsMisformed tree command.Memory = ⊥
IsMisformed tree fault = IsRefused tree fault

-- the bytes spell this node, of which this is so
abbrev pub Spelling : List ℕ → (Tree → Type 0) → Type 0
Spelling bytes OfTree = (tree : Tree) × IsFound bytes (Ok tree) × OfTree tree

-- the bytes come to this
abbrev pub IsReadAs : List ℕ → Reading → Type 0
IsReadAs bytes (no_block fault) = IsFound bytes (Err fault)
IsReadAs bytes (no_commands fault) = Spelling bytes (λ tree. IsMisformed tree fault)
IsReadAs bytes (commanded orders) = Spelling bytes (λ tree. AreOrders tree orders)
