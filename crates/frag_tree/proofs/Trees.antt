-- The equations of the trees of blocks and modules.
use Rattle.std.proofs.Common.{◌≡◌, map, sym, ap, ◌∙◌}
use Rattle.frag_tree.specs.declared.block.Block.{Block, out-Block, roll-Block}
use Rattle.frag_tree.specs.declared.block.Module.{Module}
use Rattle.frag_tree.specs.declared.block.Module.TheVariants.{Block as BlockModule, Register as RegisterOf, rolls-Block, rolls-Register}
use Rattle.frag_tree.specs.declared.block.Module.TheOpen.{Block-F, Module-F}
use Rattle.frag_tree.specs.declared.block.Module.TheOpen as opened
use Rattle.frag_tree.specs.declared.block.Module.TheFolds.{fold-Module, fold-roll-Block, fold-roll-Module, fold_out-Block}
use Rattle.frag_tree.specs.declared.register.RegisterModule.{RegisterModule}
use Rattle.frag_tree.specs.Trees.{BlockTree, ModuleTree, one_block, one_register, block_layer, module_layer, block_tree, module_tree, in_line}

pub module_tree-block : (part : Block) → module_tree (BlockModule part) ≡ one_block (block_tree part)
unfolding module_tree block_tree
module_tree-block part =
    ap module_tree' (sym (rolls-Block part))
    ∙ fold-roll-Module ModuleTree BlockTree module_layer block_layer (opened.Block part)
  where
    module_tree' : Module → ModuleTree
    module_tree' = fold-Module ModuleTree BlockTree module_layer block_layer

pub module_tree-register : (part : RegisterModule) → module_tree (RegisterOf part) ≡ one_register part
unfolding module_tree
module_tree-register part =
    ap module_tree' (sym (rolls-Register part))
    ∙ fold-roll-Module ModuleTree BlockTree module_layer block_layer (opened.Register part)
  where
    module_tree' : Module → ModuleTree
    module_tree' = fold-Module ModuleTree BlockTree module_layer block_layer

pub block_tree-is : (part : Block) → block_tree part ≡ record { head = record { name = (out-Block part).name; fields = (out-Block part).fields; accessors = (out-Block part).accessors }; inside = in_line (map module_tree (out-Block part).modules.items) }
unfolding block_tree module_tree
block_tree-is part = fold_out-Block ModuleTree BlockTree module_layer block_layer part

-- a block that is put together
pub block_tree-roll : (parts : Block-F Module Block) → block_tree (roll-Block parts) ≡ record { head = record { name = parts.name; fields = parts.fields; accessors = parts.accessors }; inside = in_line (map module_tree parts.modules.items) }
unfolding block_tree module_tree
block_tree-roll parts = fold-roll-Block ModuleTree BlockTree module_layer block_layer parts
