-- A crate as a pure tree, apart from where its parts are kept. The places of its items are no part of it.
use Rattle.std.specs.Prelude.{ℕ, Bool, true, false, List, [], ◌∷◌, map}
use Rattle.frag_tree.specs.declared.access.Access.{Access}
use Rattle.frag_tree.specs.declared.block.Block.{Block}
use Rattle.frag_tree.specs.declared.block.Module.TheOpen.{Block-F, Module-F}
use Rattle.frag_tree.specs.declared.block.Module.TheOpen as opened
use Rattle.frag_tree.specs.declared.block.Module.TheFolds.{fold-Block, fold-Module}
use Rattle.frag_tree.specs.declared.block.Module.{Module}
use Rattle.frag_tree.specs.declared.block.StructField.{StructField}
use Rattle.frag_tree.specs.declared.krate.Crate.{Crate}
use Rattle.frag_tree.specs.declared.krate.Slot.{Slot}
use Rattle.frag_tree.specs.declared.krate.Version.{Version}
use Rattle.frag_tree.specs.declared.krate.Version.TheVariants.{One, Two}
use Rattle.frag_tree.specs.declared.register.ReadForm.{ReadForm}
use Rattle.frag_tree.specs.declared.register.ReadForm.TheVariants as read
use Rattle.frag_tree.specs.declared.register.Spot.{Spot}
use Rattle.frag_tree.specs.declared.register.Spot.TheVariants.{Fixed, Indexed}
use Rattle.frag_tree.specs.declared.register.WriteForm.{WriteForm}
use Rattle.frag_tree.specs.declared.register.WriteForm.TheVariants as write
use Rattle.frag_tree.specs.declared.register.RegisterModule.{RegisterModule}

-- a block module without the modules inside it
pub record BlockHead : Type 0 where
  pub name : List ℕ
  pub fields : List StructField
  pub accessors : List Access

-- The modules inside one parent, in their order: none; a register module and then the others; a block module with the modules inside it, and then the others.
pub data Modules : Type 0 where
  ended : Modules
  register : RegisterModule → Modules → Modules
  block : BlockHead → Modules → Modules → Modules

-- a block module
pub record BlockTree : Type 0 where
  pub head : BlockHead
  pub inside : Modules

-- one module
pub data ModuleTree : Type 0 where
  one_register : RegisterModule → ModuleTree
  one_block : BlockTree → ModuleTree

-- a crate: the form of its text, its slots and its block modules
pub record CrateTree : Type 0 where
  pub version : Version
  pub slots : List Slot
  pub blocks : List BlockTree

-- a module in front of others
abbrev pub before : ModuleTree → Modules → Modules
before (one_register unit) others = register unit others
before (one_block unit) others = block unit.head unit.inside others

-- modules in their order
unfoldable pub in_line : List ModuleTree → Modules
in_line [] = ended
in_line (unit ∷ others) = before unit (in_line others)

-- a block in which each module is a tree already
abbrev pub block_layer : Block-F ModuleTree BlockTree → BlockTree
block_layer parts =
    record { head = record { name = parts.name; fields = parts.fields; accessors = parts.accessors }; inside = in_line parts.modules.items }

abbrev pub module_layer : Module-F ModuleTree BlockTree → ModuleTree
module_layer (opened.Block tree) = one_block tree
module_layer (opened.Register unit) = one_register unit

unfoldable pub block_tree : Block → BlockTree
block_tree = fold-Block ModuleTree BlockTree module_layer block_layer

unfoldable pub module_tree : Module → ModuleTree
module_tree = fold-Module ModuleTree BlockTree module_layer block_layer

-- the pure tree of a crate
unfoldable pub crate_tree : Crate → CrateTree
crate_tree krate = record { version = krate.version; slots = krate.slots; blocks = map block_tree krate.blocks.items }

-- fields that take an index are of version 2
abbrev pub takes_index : Version → Bool
takes_index One = false
takes_index Two = true

-- the field lies at `at_bit(..)`
abbrev pub is_indexed : Spot → Bool
is_indexed (Fixed place) = false
is_indexed (Indexed offset step count) = true

-- where the field lies that is read
abbrev pub spot_read : ReadForm → Spot
spot_read (read.Bit spot mask) = spot
spot_read (read.Field bits spot mask) = spot

-- where the field lies that is written
abbrev pub spot_written : WriteForm → Spot
spot_written (write.Bit kind spot) = spot
spot_written (write.Field bits wide spot) = spot
