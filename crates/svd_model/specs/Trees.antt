-- The pure tree of a device, of steps and keys, and its flat list of rows. No code builds them.
use Rattle.std.specs.Prelude.{ℕ, ◌+◌, List, [], ◌∷◌, ◌++◌, Option, Some, None, option_map, unwrap_or, map}
use Rattle.svd_model.specs.declared.device.Child.{Child}
use Rattle.svd_model.specs.declared.device.Child.TheOpen.{Child-F, Cluster-F, Item-F}
use Rattle.svd_model.specs.declared.device.Child.TheOpen as opened
use Rattle.svd_model.specs.declared.device.Child.TheFolds.{fold-Child, fold-Cluster, fold-Item}
use Rattle.svd_model.specs.declared.device.Cluster.{Cluster}
use Rattle.svd_model.specs.declared.device.Device.{Device}
use Rattle.svd_model.specs.declared.device.Dim.{Dim}
use Rattle.svd_model.specs.declared.device.Field.{Field}
use Rattle.svd_model.specs.declared.device.Item.{Item}
use Rattle.svd_model.specs.declared.device.Peripheral.{Peripheral}
use Rattle.svd_model.specs.declared.device.Register.{Register}
use Rattle.svd_model.specs.declared.device.Values.{Values}
use Rattle.svd_model.specs.declared.device.Variant.{Variant}
use Rattle.svd_model.specs.declared.props.Props.{Props}
use Rattle.svd_model.specs.declared.sibling.Sibling.{Sibling}
use Rattle.svd_model.specs.Keys.{Key, device_name, derived_from, dim_count, dim_increment, dim_index, base_address, at_offset, bit_width, alternate_of, alternate_group, register_size, register_access, reset_value, reset_mask, write_kind, read_action, value_usage, enumerated_value}
use Rattle.svd_model.specs.Steps.{Step, Kind, peripheral, cluster, register, field, set, value}
use Rattle.svd_rows.specs.Forest.{Forest, Tree, leaf, node, siblings}
use Rattle.svd_rows.specs.Ranks.{stated}
use Rattle.svd_rows.specs.Rows.{Row, rows}

-- ---- the keys of each element: one place for each rank

abbrev pub dim_places : Dim → List (Option Key)
dim_places dim = option_map dim_count dim.count ∷ option_map dim_increment dim.step ∷ option_map dim_index dim.index ∷ []

abbrev pub property_places : Props → List (Option Key)
property_places props =
    option_map register_size props.size ∷ option_map register_access props.access ∷ option_map reset_value props.reset_value ∷ option_map reset_mask props.reset_mask ∷ []

unfoldable pub device_places : Device → List (Option Key)
device_places device =
    Some (device_name device.name) ∷ None ∷ None ∷ None ∷ None ∷ None ∷ None ∷ None ∷ None ∷ None ∷ (property_places device.props ++ (None ∷ None ∷ None ∷ None ∷ []))

unfoldable pub peripheral_places : Peripheral → List (Option Key)
peripheral_places element =
    None ∷ option_map derived_from element.derived ∷ (dim_places element.dim ++ (Some (base_address element.base) ∷ None ∷ None ∷ None ∷ None ∷ (property_places element.props ++ (None ∷ None ∷ None ∷ None ∷ []))))

unfoldable pub cluster_places : {A B C : Type 0} → Cluster-F A B C → List (Option Key)
cluster_places element =
    None ∷ option_map derived_from element.derived ∷ (dim_places element.dim ++ (None ∷ Some (at_offset element.offset) ∷ None ∷ option_map alternate_of element.alternate ∷ None ∷ (property_places element.props ++ (None ∷ None ∷ None ∷ None ∷ []))))

unfoldable pub register_places : Register → List (Option Key)
register_places element =
    None ∷ option_map derived_from element.derived ∷ (dim_places element.dim ++ (None ∷ Some (at_offset element.offset) ∷ None ∷ option_map alternate_of element.alternate ∷ option_map alternate_group element.group ∷ (property_places element.props ++ (option_map write_kind element.kind ∷ option_map read_action element.action ∷ None ∷ None ∷ []))))

unfoldable pub field_places : Field → List (Option Key)
field_places element =
    None ∷ option_map derived_from element.derived ∷ (dim_places element.dim ++ (None ∷ option_map at_offset element.place.offset ∷ option_map bit_width element.place.width ∷ None ∷ None ∷ None ∷ option_map register_access element.access ∷ None ∷ None ∷ option_map write_kind element.kind ∷ option_map read_action element.action ∷ None ∷ None ∷ []))

unfoldable pub set_places : Values → List (Option Key)
set_places element =
    None ∷ option_map derived_from element.derived ∷ None ∷ None ∷ None ∷ None ∷ None ∷ None ∷ None ∷ None ∷ None ∷ None ∷ None ∷ None ∷ None ∷ None ∷ option_map value_usage element.usage ∷ None ∷ []

unfoldable pub value_places : Variant → List (Option Key)
value_places element =
    None ∷ None ∷ None ∷ None ∷ None ∷ None ∷ None ∷ None ∷ None ∷ None ∷ None ∷ None ∷ None ∷ None ∷ None ∷ None ∷ None ∷ option_map enumerated_value element.value ∷ []

-- ---- the tree

-- the step of an element under its key
abbrev pub step_of : Kind → Sibling → Step
step_of kind key = record { kind = kind; name = key.name; number = key.number }

-- siblings that are told apart by their places, counted from this number on
unfoldable pub numbered : Kind → ℕ → List (List ℕ × Tree Step Key) → Forest Step Key
numbered kind n [] = leaf
numbered kind n (element ∷ others) =
    node (record { kind = kind; name = element.0; number = n }) element.1.keys element.1.below (numbered kind (n + 1) others)

-- an enumerated value: its name, and its tree
abbrev pub value_tree : Variant → (List ℕ × Tree Step Key)
value_tree element = (element.name, record { keys = stated (value_places element); below = leaf })

-- a set of enumerated values: its name, and its tree
abbrev pub set_tree : Values → (List ℕ × Tree Step Key)
set_tree element =
    (unwrap_or element.name [], record { keys = stated (set_places element); below = numbered value 0 (map value_tree element.items.items) })

abbrev pub field_tree : Field → Tree Step Key
field_tree element =
    record { keys = stated (field_places element); below = numbered set 0 (map set_tree element.values.items) }

-- a field under its key
abbrev pub field_under : (Sibling × Field) → (Step × Tree Step Key)
field_under entry = (step_of field entry.0, field_tree entry.1)

abbrev pub register_tree : Register → Tree Step Key
register_tree element =
    record { keys = stated (register_places element); below = siblings (map field_under element.fields.entries) }

-- a register under its key
abbrev pub register_under : Sibling → Register → (Step × Tree Step Key)
register_under key inner = (step_of register key, register_tree inner)

-- a child with its kind
abbrev pub child_layer : Child-F (Kind × Tree Step Key) (Tree Step Key) (Step × Tree Step Key) → (Kind × Tree Step Key)
child_layer (opened.Cluster tree) = (cluster, tree)
child_layer (opened.Register element) = (register, register_tree element)

-- a cluster in which each child is a tree already
abbrev pub cluster_layer : Cluster-F (Kind × Tree Step Key) (Tree Step Key) (Step × Tree Step Key) → Tree Step Key
cluster_layer element = record { keys = stated (cluster_places element); below = siblings element.children.items }

-- a child under its key
abbrev pub item_layer : Item-F (Kind × Tree Step Key) (Tree Step Key) (Step × Tree Step Key) → (Step × Tree Step Key)
item_layer item = (step_of item.child.0 item.key, item.child.1)

unfoldable pub child_tree : Child → (Kind × Tree Step Key)
child_tree = fold-Child (Kind × Tree Step Key) (Tree Step Key) (Step × Tree Step Key) child_layer cluster_layer item_layer

unfoldable pub cluster_tree : Cluster → Tree Step Key
cluster_tree = fold-Cluster (Kind × Tree Step Key) (Tree Step Key) (Step × Tree Step Key) child_layer cluster_layer item_layer

-- a cluster under its key
abbrev pub cluster_under : Sibling → Cluster → (Step × Tree Step Key)
cluster_under key inner = (step_of cluster key, cluster_tree inner)

unfoldable pub item_under : Item → (Step × Tree Step Key)
item_under = fold-Item (Kind × Tree Step Key) (Tree Step Key) (Step × Tree Step Key) child_layer cluster_layer item_layer

abbrev pub peripheral_tree : Peripheral → Tree Step Key
peripheral_tree element =
    record { keys = stated (peripheral_places element); below = siblings (map item_under element.children.items) }

-- a peripheral under its key
abbrev pub peripheral_under : (Sibling × Peripheral) → (Step × Tree Step Key)
peripheral_under entry = (step_of peripheral entry.0, peripheral_tree entry.1)

-- the pure tree of a device
unfoldable pub device_tree : Device → Tree Step Key
device_tree device =
    record { keys = stated (device_places device); below = siblings (map peripheral_under device.peripherals.entries) }

-- the flat list of rows that a device is seen as
abbrev pub device_rows : Device → List (Row Step Key)
device_rows device = rows (device_tree device)
