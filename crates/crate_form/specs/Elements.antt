-- One element by itself: what checking says of it wherever it stands, and what it comes to in the crate.
use Rattle.std.specs.Prelude.{ℕ, ◌≡◌, ◌≢◌, Bool, List, [], ◌∷◌, map, All}
use Rattle.std.specs.List.{AllByRecursion}
use Rattle.block_form.specs.declared.child.Child.{Child}
use Rattle.block_form.specs.declared.child.ChildKind.{ChildKind}
use Rattle.checked_tree.specs.Blocks.{AreInBlock}
use Rattle.checked_tree.specs.Devices.{PeripheralIsChecked}
use Rattle.checked_tree.specs.Places.{ArePlaced}
use Rattle.frag_tree.specs.declared.krate.Slot.{Slot}
use Rattle.frag_tree.specs.Trees.{BlockTree, ModuleTree}
use Rattle.reg_table.specs.Walk.{FitIn, props_inside}
use Rattle.reg_table.specs.declared.row.Call.{Call}
use Rattle.reg_table.specs.declared.row.FieldRow.{FieldRow}
use Rattle.register_form.specs.declared.register.Register.{Register}
use Rattle.rust_names.specs.Identifiers.{IsIdentifier}
use Rattle.svd_model.specs.declared.device.Dim.{Dim}
use Rattle.svd_model.specs.declared.device.Field.{Field}
use Rattle.svd_model.specs.declared.device.Item.{Item}
use Rattle.svd_model.specs.declared.props.Props.{Props}
use Rattle.svd_model.specs.declared.sibling.Sibling.{Sibling}
use Rattle.svd_model.specs.Keys.{Key}
use Rattle.svd_model.specs.Steps.{Step}
use Rattle.svd_model.specs.Trees.{item_under}
use Rattle.svd_rows.specs.Forest.{Forest, Tree, siblings}
use Rattle.svd_values.specs.AccessorNames.{accessor_name}
use Rattle.crate_form.specs.Children.{array_of, child_of, child_with, children_of}
use Rattle.crate_form.specs.Crates.{slot_of, takes_indexes}
use Rattle.crate_form.specs.Modules.{block_of, module_of, modules_of}
use Rattle.crate_form.specs.Registers.{register_here, written_marker}

-- ---- what checking says

-- these registers and clusters stand in a block in which these properties hold, wherever that starts
pub record Stand (outer : Props) (forest : Forest Step Key) : Type 0 where
  pub start : ℕ
  pub fit : FitIn start outer forest
  pub inside : AreInBlock outer forest
  pub placed : ArePlaced start outer forest

-- so does this one
abbrev pub StandsAlone : Props → (Step × Tree Step Key) → Type 0
StandsAlone outer element = Stand outer (siblings (element ∷ []))

abbrev pub AllStand : Props → List Item → Type 0
AllStand outer items = All (λ item. StandsAlone outer (item_under item)) items

-- a peripheral of a device in which these properties hold
pub record IsPeripheral (outer : Props) (element : Step × Tree Step Key) : Type 0 where
  pub checked : PeripheralIsChecked outer element.0 element.1.keys element.1.below
  pub fit : FitIn 0 outer (siblings (element ∷ []))

-- ---- the names of fields

abbrev pub CallIsNamed : Call → Type 0
CallIsNamed call = IsIdentifier call.name

-- its names are identifiers
pub record FieldIsReady (field : FieldRow) : Type 0 where
  pub named : IsIdentifier field.name
  pub tests : AllByRecursion CallIsNamed field.is_calls
  pub sets : AllByRecursion CallIsNamed field.set_calls

abbrev pub entry_marker : (Sibling × Field) → List ℕ
entry_marker entry = written_marker entry.0.name

-- a written name has a byte
abbrev pub HasName : (Sibling × Field) → Type 0
HasName entry = entry.0.name ≢ []

-- so is the marker of a field
abbrev pub IsMarked : (Sibling × Field) → Type 0
IsMarked entry = HasName entry → IsIdentifier (entry_marker entry)

-- ---- what it comes to

-- the register of an element, inside of which these properties hold
abbrev pub register_at : Props → (Step × Tree Step Key) → Register
register_at outer element = register_here (props_inside element.1.keys outer) element.0 element.1.keys element.1.below

-- its child
abbrev pub child_at : Props → (Step × Tree Step Key) → Child
child_at outer element =
    child_of (props_inside element.1.keys outer) element.0 element.1.keys (children_of (props_inside element.1.keys outer) element.1.below)

-- its module
abbrev pub module_at : Props → (Step × Tree Step Key) → ModuleTree
module_at outer element =
    module_of (props_inside element.1.keys outer) element.0 element.1.keys element.1.below (modules_of (props_inside element.1.keys outer) element.1.below)

-- what a block is told of a declared element of this kind and at this offset that takes so many bytes
abbrev pub child_from : Sibling → ChildKind → ℕ → Dim → ℕ → ℕ → Child
child_from key kind offset dim size align =
    child_with (accessor_name key.name) kind offset (array_of dim.count dim.step) (record { size = size; align = align })

-- the slot of a peripheral, and its block
abbrev pub slot_at : (Step × Tree Step Key) → Slot
slot_at element = slot_of element.0 element.1.keys

abbrev pub block_at : Props → (Step × Tree Step Key) → BlockTree
block_at outer element = block_of (props_inside element.1.keys outer) element.0 element.1.below

-- ---- whether calls take an index

-- whether a field of these registers, or of those below these clusters, is an array, wherever they stand
abbrev pub HaveArrays : List Item → Bool → Type 0
HaveArrays items has = (outer : Props) → AllStand outer items → has ≡ takes_indexes outer (siblings (map item_under items))

-- so of one of them
abbrev pub HasArrays : (Step × Tree Step Key) → Bool → Type 0
HasArrays element has = (outer : Props) → StandsAlone outer element → has ≡ takes_indexes outer (siblings (element ∷ []))
