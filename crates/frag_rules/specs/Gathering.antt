-- What one module is in the lists of all modules.
use Rattle.std.specs.Prelude.{List, [], ◌∷◌}
use Rattle.frag_sem.specs.Modules.{blocks_in, registers_in}
use Rattle.frag_tree.specs.declared.register.RegisterModule.{RegisterModule}
use Rattle.frag_tree.specs.Trees.{BlockTree, ModuleTree, one_block, one_register}

-- the block modules at and below a module
abbrev pub blocks_at : ModuleTree → List BlockTree
blocks_at (one_register unit) = []
blocks_at (one_block unit) = unit ∷ blocks_in unit.inside

-- the register modules at and below a module
abbrev pub registers_at : ModuleTree → List RegisterModule
registers_at (one_register unit) = unit ∷ []
registers_at (one_block unit) = registers_in unit.inside
