-- The modules inside one parent, under the elements that name them: `m::Spec` is a register module m, `m::RegisterBlock` a block module m, directly inside the same parent (this project's own fragment of Rust).
use Rattle.std.specs.Prelude.{Bool, true, false, not, ◌&&◌, List, [], ◌∷◌, ◌++◌, ℕ, flat_map, find, Option, Some, None, if◌then◌else◌}
use Rattle.std.specs.List.{list_any}
use Rattle.std.specs.Str.{bytes_eq}
use Rattle.frag_tree.specs.declared.block.Element.{Element}
use Rattle.frag_tree.specs.declared.block.Element.TheVariants as element
use Rattle.frag_tree.specs.declared.register.RegisterModule.{RegisterModule}
use Rattle.frag_tree.specs.Trees.{BlockHead, BlockTree, CrateTree, Modules, ModuleTree, ended, register, block, one_register, one_block}

-- ---- names

-- no two of the list are the same
unfoldable pub are_distinct : {A : Type 0} → (A → A → Bool) → List A → Bool
are_distinct same [] = true
are_distinct same (first ∷ others) = not (list_any (same first) others) && are_distinct same others

-- no two of the names are the same
abbrev pub are_distinct_names : List (List ℕ) → Bool
are_distinct_names names = are_distinct bytes_eq names

-- ---- elements

-- the name of the module that an element is of
abbrev pub module_name : Element → List ℕ
module_name (element.Register name) = name
module_name (element.Block name) = name

-- both are registers, or both are blocks, of one module
abbrev pub same_element : Element → Element → Bool
same_element (element.Register one) (element.Register other) = bytes_eq one other
same_element (element.Register one) (element.Block other) = false
same_element (element.Block one) (element.Register other) = false
same_element (element.Block one) (element.Block other) = bytes_eq one other

-- what stands beside an element, the first where there are several
abbrev pub beside : {A : Type 0} → Element → List (Element × A) → Option A
beside element [] = None
beside element (entry ∷ others) = if same_element element entry.0 then Some entry.1 else beside element others

-- ---- modules

-- the modules of one parent, each beside its element
unfoldable pub modules_of : Modules → List (Element × ModuleTree)
modules_of ended = []
modules_of (register unit others) = (element.Register unit.name, one_register unit) ∷ modules_of others
modules_of (block head inside others) = (element.Block head.name, one_block (record { head = head; inside = inside })) ∷ modules_of others

-- the module of an element, where it is directly inside the parent
abbrev pub module_of : Element → Modules → Option ModuleTree
module_of element modules = beside element (modules_of modules)

-- What each of the modules of one parent comes to, beside its element: a register module by itself; a block module by what stands in it before its modules, and by what these come to.
unfoldable pub each_module : {A : Type 0} → (RegisterModule → A) → (BlockHead → List (Element × A) → A) → Modules → List (Element × A)
each_module of_register of_block ended = []
each_module of_register of_block (register unit others) = (element.Register unit.name, of_register unit) ∷ each_module of_register of_block others
each_module of_register of_block (block head inside others) =
    (element.Block head.name, of_block head (each_module of_register of_block inside)) ∷ each_module of_register of_block others

-- the block module at the top of a crate that has the name
abbrev pub top_block : List ℕ → List BlockTree → Option BlockTree
top_block name blocks = find (λ unit. bytes_eq name unit.head.name) blocks

-- ---- all modules of a crate

-- the block modules at any depth
unfoldable pub blocks_in : Modules → List BlockTree
blocks_in ended = []
blocks_in (register unit others) = blocks_in others
blocks_in (block head inside others) = record { head = head; inside = inside } ∷ (blocks_in inside ++ blocks_in others)

-- the register modules at any depth
unfoldable pub registers_in : Modules → List RegisterModule
registers_in ended = []
registers_in (register unit others) = unit ∷ registers_in others
registers_in (block head inside others) = registers_in inside ++ registers_in others

-- the block modules of a crate
abbrev pub all_blocks : CrateTree → List BlockTree
all_blocks krate = flat_map (λ unit. unit ∷ blocks_in unit.inside) krate.blocks

-- the register modules of a crate
abbrev pub all_registers : CrateTree → List RegisterModule
all_registers krate = flat_map (λ unit. registers_in unit.inside) krate.blocks
