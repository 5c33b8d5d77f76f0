-- How deep the modules of a crate nest (this project's own limit). A block module at the top is 1 deep, and a module, of a block or of a register, is 1 deeper than the module that it stands in.
use Rattle.std.specs.Prelude.{ℕ, zero, suc, Bool, true, false, ◌&&◌}
use Rattle.std.specs.List.{list_all}
use Rattle.frag_tree.specs.Trees.{BlockTree, CrateTree, ModuleTree, Modules, ended, register, block, one_block, one_register}

-- the modules of one parent, and those inside them, nest at most so deep
unfoldable pub nests_within : ℕ → Modules → Bool
nests_within depth ended = true
nests_within zero (register unit others) = false
nests_within zero (block head inside others) = false
nests_within (suc depth) (register unit others) = nests_within (suc depth) others
nests_within (suc depth) (block head inside others) = nests_within depth inside && nests_within (suc depth) others

-- a block module and those inside it nest at most so deep
abbrev pub block_within : ℕ → BlockTree → Bool
block_within zero unit = false
block_within (suc depth) unit = nests_within depth unit.inside

-- the modules of a crate nest at most so deep
abbrev pub crate_within : ℕ → CrateTree → Bool
crate_within depth krate = list_all (block_within depth) krate.blocks

-- a module and those inside it nest at most so deep
abbrev pub module_within : ℕ → ModuleTree → Bool
module_within zero unit = false
module_within (suc depth) (one_register unit) = true
module_within (suc depth) (one_block unit) = nests_within depth unit.inside
