-- When a block stands for the children of an element: each child has its accessor, and the accessor its module (this project's own).
use Rattle.std.specs.Prelude.{ℕ, ◌≡◌, Bool, true, false, List, [], ◌∷◌, Option, Some, ⊤}
use Rattle.frag_tree.specs.declared.access.Access.{Access}
use Rattle.frag_tree.specs.declared.register.RegisterModule.{RegisterModule}
use Rattle.frag_tree.specs.Trees.{BlockTree, ModuleTree, one_block, one_register}
use Rattle.frag_sem.specs.CallPlaces.{admits, count_of, offset_of}
use Rattle.frag_sem.specs.Modules.{are_distinct_names, module_of}
use Rattle.reg_table.specs.Walk.{props_inside}
use Rattle.svd_model.specs.declared.props.Props.{Props}
use Rattle.svd_model.specs.Keys.{Key}
use Rattle.svd_model.specs.Stating.{value_of, stated_dim, is_of, start_of}
use Rattle.svd_model.specs.Steps.{Step, register}
use Rattle.svd_rows.specs.Forest.{Forest, leaf, node}
use Rattle.svd_values.specs.AccessorNames.{accessor_name}
use Rattle.table_sem.specs.Names.{is_named}
use Rattle.checked_tree.specs.Names.{accessor_names}
use Rattle.crate_means.specs.RegisterIs.{RegisterIs}

-- a register has a register module, any other element a block
abbrev pub ModuleIs : Bool → (RegisterModule → Type 0) → (BlockTree → Type 0) → ModuleTree → Type 0
ModuleIs true IsRegister IsBlock (one_register unit) = IsRegister unit
ModuleIs true IsRegister IsBlock (one_block unit) = ⊥
ModuleIs false IsRegister IsBlock (one_register unit) = ⊥
ModuleIs false IsRegister IsBlock (one_block unit) = IsBlock unit

-- An accessor of a block is that of a child: it has the child's name and as many members, leads to the place of each, and to a module that stands for what the child is.
pub record ChildIs (unit : BlockTree) (step : Step) (keys : List Key) (Inner : ModuleTree → Type 0) (access : Access) : Type 0 where
  pub named : is_named step ≡ true
  pub name : access.name ≡ accessor_name step.name
  pub count : count_of unit access ≡ value_of stated_dim keys
  pub place : (index : Option ℕ) → admits (value_of stated_dim keys) index ≡ true → offset_of unit access index ≡ start_of keys index
  pub inner : ModuleTree
  pub stands : module_of access.element unit.inside ≡ Some inner
  pub inner_is : Inner inner

-- the children have distinct accessors, and these are the accessors of the block, one for each child
pub record BlockOf (children : Forest Step Key) (Each : BlockTree → List Access → Type 0) (unit : BlockTree) : Type 0 where
  pub distinct : are_distinct_names (accessor_names children) ≡ true
  pub each : Each unit unit.head.accessors

-- siblings and accessors of a block side by side, where these properties hold round the siblings; so for all below them
unfoldable pub EachIs : Props → Forest Step Key → BlockTree → List Access → Type 0
EachIs outer leaf unit [] = ⊤
EachIs outer leaf unit (access ∷ accessors) = ⊥
EachIs outer (node step keys children others) unit [] = ⊥
EachIs outer (node step keys children others) unit (access ∷ accessors) =
    ChildIs unit step keys (ModuleIs (is_of register step) (RegisterIs (props_inside keys outer) keys children) (BlockOf children (EachIs (props_inside keys outer) children))) access
    × EachIs outer others unit accessors

-- a block stands for these children, in whose parent these properties hold
abbrev pub BlockIs : Props → Forest Step Key → BlockTree → Type 0
BlockIs outer children unit = BlockOf children (EachIs outer children) unit
