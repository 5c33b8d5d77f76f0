-- A crate with the lists of its modules at any depth.
use Rattle.std.specs.Prelude.{List, map, ◌++◌}
use Rattle.frag_sem.specs.Modules.{all_blocks, all_registers}
use Rattle.frag_tree.specs.declared.register.RegisterModule.{RegisterModule}
use Rattle.frag_tree.specs.Trees.{BlockTree, CrateTree, block_tree, crate_tree}
use Rattle.frag_rules.specs.declared.parts.Parts.{Parts}

-- the tree of a crate, and its modules at any depth, in the order of the text
pub record Laid : Type 0 where
  pub tree : CrateTree
  pub blocks : List BlockTree
  pub registers : List RegisterModule

abbrev pub laid_out : CrateTree → Laid
laid_out krate = record { tree = krate; blocks = all_blocks krate; registers = all_registers krate }

-- what the code has of it
abbrev pub laid_in : Parts → Laid
laid_in parts = record {
  tree = crate_tree parts.krate.now;
  blocks = map (λ listed. block_tree listed.unit.now) parts.blocks.items;
  registers = map (λ listed. listed.unit.now) parts.registers.items;
}

-- with these modules behind the others
abbrev pub with_more : Laid → List BlockTree → List RegisterModule → Laid
with_more laid blocks registers = record { tree = laid.tree; blocks = laid.blocks ++ blocks; registers = laid.registers ++ registers }
