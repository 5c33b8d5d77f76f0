-- The modules of an emitted crate, as a function of a description's forest (this project's own rules of emission): one for each peripheral, cluster and register, as they are declared.
use Rattle.std.specs.Prelude.{ℕ, Bool, true, false, List}
use Rattle.frag_tree.specs.Trees.{BlockHead, BlockTree, ModuleTree, Modules, before, ended, one_block, one_register}
use Rattle.block_form.specs.declared.child.Child.{Child}
use Rattle.block_form.specs.Forms.{accessors_of, fields_of}
use Rattle.register_form.specs.Forms.{form_of}
use Rattle.reg_table.specs.Walk.{props_inside}
use Rattle.svd_model.specs.declared.props.Props.{Props}
use Rattle.svd_model.specs.Keys.{Key}
use Rattle.svd_model.specs.Stating.{is_of}
use Rattle.svd_model.specs.Steps.{Step, register}
use Rattle.svd_rows.specs.Forest.{Forest, leaf, node}
use Rattle.svd_values.specs.AccessorNames.{accessor_name}
use Rattle.crate_form.specs.Children.{children_of}
use Rattle.crate_form.specs.Registers.{register_here}

-- the struct and the accessors of a block with these children
abbrev pub head_of : List ℕ → List Child → BlockHead
head_of name children = record { name = name; fields = fields_of children; accessors = accessors_of children }

-- the block of an element in which these properties hold and these elements stand, with these modules inside
abbrev pub block_around : Props → Step → Forest Step Key → Modules → BlockTree
block_around props step below inside = record { head = head_of (accessor_name step.name) (children_of props below); inside = inside }

abbrev pub module_by : Bool → Props → Step → List Key → Forest Step Key → Modules → ModuleTree
module_by true props step keys below inside = one_register (form_of (register_here props step keys below))
module_by false props step keys below inside = one_block (block_around props step below inside)

-- the module of an element with these keys, in which these properties hold and these elements stand, with these modules inside where it is a block
abbrev pub module_of : Props → Step → List Key → Forest Step Key → Modules → ModuleTree
module_of props step keys below inside = module_by (is_of register step) props step keys below inside

-- the modules inside a block in which these properties hold
unfoldable pub modules_of : Props → Forest Step Key → Modules
modules_of outer leaf = ended
modules_of outer (node step keys below others) =
    before (module_of (props_inside keys outer) step keys below (modules_of (props_inside keys outer) below)) (modules_of outer others)

-- the block of an element in which these properties hold and these elements stand
abbrev pub block_of : Props → Step → Forest Step Key → BlockTree
block_of props step below = block_around props step below (modules_of props below)
