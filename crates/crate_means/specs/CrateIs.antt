-- When a crate text stands for a description: each peripheral has its slot, and the slot its block (this project's own).
use Rattle.std.specs.Prelude.{◌≡◌, true, false, List, [], ◌∷◌, Some, None, ⊤}
use Rattle.frag_tree.specs.declared.krate.Slot.{Slot}
use Rattle.frag_tree.specs.Trees.{BlockTree, CrateTree}
use Rattle.frag_sem.specs.Modules.{are_distinct_names, top_block}
use Rattle.reg_table.specs.Walk.{props_inside}
use Rattle.svd_model.specs.declared.device.Device.{Device}
use Rattle.svd_model.specs.declared.props.Props.{Props}
use Rattle.svd_model.specs.Keys.{Key}
use Rattle.svd_model.specs.Stating.{is_of, start_of}
use Rattle.svd_model.specs.Steps.{Step, register}
use Rattle.svd_model.specs.Trees.{device_tree}
use Rattle.svd_rows.specs.Forest.{Forest, leaf, node}
use Rattle.svd_values.specs.AccessorNames.{slot_name_of}
use Rattle.table_sem.specs.Names.{is_named}
use Rattle.checked_tree.specs.Names.{slot_names}
use Rattle.crate_means.specs.BlockIs.{BlockIs}

-- A slot is that of a peripheral: it has its name and its base address, and leads to a block that stands for what the peripheral holds.
pub record PeripheralIs (krate : CrateTree) (step : Step) (keys : List Key) (Inner : BlockTree → Type 0) (slot : Slot) : Type 0 where
  pub named : is_named step ≡ true
  pub no_register : is_of register step ≡ false
  pub name : slot.name ≡ slot_name_of step.name
  pub address : slot.address ≡ start_of keys None
  pub unit : BlockTree
  pub stands : top_block slot.block krate.blocks ≡ Some unit
  pub unit_is : Inner unit

-- peripherals and slots side by side, in a device of these properties
unfoldable pub EachPeripheral : Props → Forest Step Key → CrateTree → List Slot → Type 0
EachPeripheral outer leaf krate [] = ⊤
EachPeripheral outer leaf krate (slot ∷ slots) = ⊥
EachPeripheral outer (node step keys children others) krate [] = ⊥
EachPeripheral outer (node step keys children others) krate (slot ∷ slots) =
    PeripheralIs krate step keys (BlockIs (props_inside keys outer) children) slot × EachPeripheral outer others krate slots

-- the peripherals have distinct slots, and these are the slots of the crate, one for each peripheral
pub record CrateOf (outer : Props) (peripherals : Forest Step Key) (krate : CrateTree) : Type 0 where
  pub distinct : are_distinct_names (slot_names peripherals) ≡ true
  pub each : EachPeripheral outer peripherals krate krate.slots

-- the crate stands for the device
abbrev pub CrateIs : Device → CrateTree → Type 0
CrateIs device krate = CrateOf device.props (device_tree device).below krate
