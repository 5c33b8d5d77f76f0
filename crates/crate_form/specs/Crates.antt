-- The crate that is emitted for a description (this project's own rules of emission): a slot and a block for each peripheral, as they are declared.
use Rattle.std.specs.Prelude.{Bool, true, false, ◌||◌, List, [], ◌∷◌, cond, unwrap_or}
use Rattle.frag_tree.specs.declared.krate.Slot.{Slot}
use Rattle.frag_tree.specs.declared.krate.Version.{Version}
use Rattle.frag_tree.specs.declared.krate.Version.TheVariants.{One, Two}
use Rattle.frag_tree.specs.Trees.{BlockTree, CrateTree}
use Rattle.register_form.specs.Forms.{has_arrays}
use Rattle.reg_table.specs.Walk.{props_inside, stated_props}
use Rattle.svd_model.specs.declared.props.Props.{Props}
use Rattle.svd_model.specs.Keys.{Key}
use Rattle.svd_model.specs.Stating.{is_of, stated_base, value_of}
use Rattle.svd_model.specs.Steps.{Step, register}
use Rattle.svd_rows.specs.Forest.{Forest, leaf, node}
use Rattle.svd_rows.specs.Reading.{tree_of}
use Rattle.svd_rows.specs.Rows.{Row}
use Rattle.svd_values.specs.AccessorNames.{accessor_name, slot_name_of}
use Rattle.crate_form.specs.Modules.{block_of}
use Rattle.crate_form.specs.Registers.{register_here}

-- ---- slots and blocks

-- the slot of a peripheral: its slot name, its module, its base address
abbrev pub slot_of : Step → List Key → Slot
slot_of step keys = record { name = slot_name_of step.name; block = accessor_name step.name; address = unwrap_or (value_of stated_base keys) 0 }

-- the slots of peripherals
unfoldable pub slots_of : Forest Step Key → List Slot
slots_of leaf = []
slots_of (node step keys below others) = slot_of step keys ∷ slots_of others

-- the blocks of peripherals, in a device of these properties
unfoldable pub blocks_of : Props → Forest Step Key → List BlockTree
blocks_of outer leaf = []
blocks_of outer (node step keys below others) = block_of (props_inside keys outer) step below ∷ blocks_of outer others

-- ---- the version

-- a field of a register among these or below them is an array, whose calls take an index
unfoldable pub takes_indexes : Props → Forest Step Key → Bool
takes_indexes outer leaf = false
takes_indexes outer (node step keys below others) =
    cond (is_of register step) (has_arrays (register_here (props_inside keys outer) step keys below)) (takes_indexes (props_inside keys outer) below) || takes_indexes outer others

-- calls that take an index are of the second version
abbrev pub version_by : Bool → Version
version_by true = Two
version_by false = One

-- ---- the crate

-- the crate of these peripherals, in a device of these properties
unfoldable pub crate_of : Props → Forest Step Key → CrateTree
crate_of outer peripherals = record {
  version = version_by (takes_indexes outer peripherals);
  slots = slots_of peripherals;
  blocks = blocks_of outer peripherals;
}

-- the crate of a description's flat rows: they spell one tree, whose own keys state the properties that hold in the device
unfoldable pub emitted : List (Row Step Key) → CrateTree
emitted all = crate_of (stated_props (tree_of all).keys) (tree_of all).below
