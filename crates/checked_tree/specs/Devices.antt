-- What checking says of the peripherals of a description.
use Rattle.std.specs.Prelude.{ℕ, ◌≡◌, ◌≢◌, ◌<◌, ◌^◌, true, List, [], None, unwrap_or, ⊤}
use Rattle.checked_tree.specs.Blocks.{AreInBlock}
use Rattle.checked_tree.specs.Names.{AreSiblings, HasAccessor, slot_names}
use Rattle.checked_tree.specs.Places.{ArePlaced}
use Rattle.frag_sem.specs.Modules.{are_distinct_names}
use Rattle.reg_table.specs.Walk.{props_inside}
use Rattle.svd_model.specs.declared.props.Props.{Props}
use Rattle.svd_model.specs.Keys.{Key}
use Rattle.svd_model.specs.Stating.{value_of, start_of, stated_base, stated_dim}
use Rattle.svd_model.specs.Steps.{Step, peripheral}
use Rattle.svd_rows.specs.Forest.{Forest, leaf, node}
use Rattle.svd_values.specs.AccessorNames.{slot_name_of}
use Rattle.rust_names.specs.Identifiers.{IsIdentifier}

-- the address of a peripheral's first byte
abbrev pub base_of : List Key → ℕ
base_of keys = unwrap_or (value_of stated_base keys) 0

-- A peripheral with these keys and children, in a device of these properties: it is no array, and starts at its base, which is an address of 64 bits; its children stand in a block there.
pub record PeripheralIsChecked (outer : Props) (step : Step) (keys : List Key) (children : Forest Step Key) : Type 0 where
  pub kind : step.kind ≡ peripheral
  pub accessor : HasAccessor step.name
  pub slot : step.name ≢ [] → IsIdentifier (slot_name_of step.name)
  pub alone : value_of stated_dim keys ≡ None
  pub starts : start_of keys None ≡ base_of keys
  pub base : base_of keys < 2 ^ 64
  pub siblings : AreSiblings children
  pub inside : AreInBlock (props_inside keys outer) children
  pub placed : ArePlaced (base_of keys) (props_inside keys outer) children

-- it says so of each peripheral
unfoldable pub ArePeripherals : Props → Forest Step Key → Type 0
ArePeripherals outer leaf = ⊤
ArePeripherals outer (node step keys children others) = PeripheralIsChecked outer step keys children × ArePeripherals outer others

-- The peripherals of a device of these properties: they have distinct slots and distinct accessors, and each is checked.
pub record AreChecked (outer : Props) (peripherals : Forest Step Key) : Type 0 where
  pub slots : are_distinct_names (slot_names peripherals) ≡ true
  pub siblings : AreSiblings peripherals
  pub each : ArePeripherals outer peripherals
