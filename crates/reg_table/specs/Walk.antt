-- The registers below siblings by a walk of the tree, and what checking says of each element there. The law that joins
-- them with the flat rows stands in proofs/Tables.
use Rattle.std.specs.Prelude.{◌≡◌, ℕ, ◌+◌, ◌≤◌, ◌<◌, ◌^◌, true, cond, List, length, [], ◌∷◌, ◌++◌, Option, None, Some, unwrap_or, All, ⊤}
use Rattle.std.specs.List.{flat_map}
use Rattle.pac_base.specs.Widths.{bits_of}
use Rattle.reg_table.specs.Registers.{register_row}
use Rattle.reg_table.specs.declared.row.Row.{Row as TableRow}
use Rattle.reg_table.specs.declared.row.RowPath.{RowPath}
use Rattle.svd_model.specs.declared.device.Item.{Item}
use Rattle.svd_model.specs.declared.props.Props.{Props}
use Rattle.svd_model.specs.Checking.{width_of, bytes_of, is_size, is_field_within}
use Rattle.svd_model.specs.Keys.{Key}
use Rattle.svd_model.specs.Properties.{holding, size_at}
use Rattle.svd_model.specs.Stating.{value_of, stated_size, stated_access, stated_reset, stated_mask, stated_dim, indexes_of, is_of, start_of}
use Rattle.svd_model.specs.Steps.{Step, same_step, Kind, peripheral, cluster, register, field, set, value}
use Rattle.svd_model.specs.Trees.{item_under}
use Rattle.svd_rows.specs.Elements.{IsDistinct}
use Rattle.svd_rows.specs.Forest.{Forest, Tree, leaf, node, siblings}
use Rattle.svd_rows.specs.Rows.{rows}
use Rattle.svd_values.specs.AccessorNames.{accessor_name, slot_name_of}

-- the properties that an element with these keys states
abbrev pub stated_props : List Key → Props
stated_props keys = record {
  size = value_of stated_size keys;
  access = value_of stated_access keys;
  reset_value = value_of stated_reset keys;
  reset_mask = value_of stated_mask keys;
}

-- the properties that hold in an element with these keys, inside these
abbrev pub props_inside : List Key → Props → Props
props_inside keys outer = holding (stated_props keys ∷ outer ∷ [])

-- the path of a member of a child
abbrev pub path_inside : RowPath → List ℕ → Option ℕ → RowPath
path_inside path name index = record { slot = path.slot; steps = path.steps ++ record { name = accessor_name name; index = index } ∷ [] }

-- the rows of the registers among siblings and below them, whose parent has this path, starts here, and in which these
-- properties hold: each member with what is below it precedes the next
unfoldable pub rows_in : RowPath → ℕ → Props → Forest Step Key → List TableRow
rows_in path start outer leaf = []
rows_in path start outer (node step keys children siblings) =
    flat_map (λ index.
    cond (is_of register step) (register_row (path_inside path step.name index) (start + start_of keys index) (props_inside keys outer) (rows (record { keys = keys; below = children })) ∷ []) []
    ++ rows_in (path_inside path step.name index) (start + start_of keys index) (props_inside keys outer) children) (indexes_of (value_of stated_dim keys))
    ++ rows_in path start outer siblings

-- the rows of one member of an element: its own, where it is a register, and those of the registers below it
abbrev pub member_rows : RowPath → ℕ → Props → (Step × Tree Step Key) → Option ℕ → List TableRow
member_rows path start outer element index =
    cond (is_of register element.0) (register_row (path_inside path element.0.name index) (start + start_of element.1.keys index) (props_inside element.1.keys outer) (rows (record { keys = element.1.keys; below = element.1.below })) ∷ []) []
    ++ rows_in (path_inside path element.0.name index) (start + start_of element.1.keys index) (props_inside element.1.keys outer) element.1.below

-- the index of the member of this number, where an element stands so often: only an array's members have one
abbrev pub index_at : Option ℕ → ℕ → Option ℕ
index_at None number = None
index_at (Some count) number = Some number

-- what checking says of an element that starts here, in which these properties hold
abbrev pub FitsHere : ℕ → Props → Step → List Key → Forest Step Key → Type 0
FitsHere start props step keys children = at step.kind
  where
    at : Kind → Type 0
    at peripheral = start < 2 ^ 64
    at cluster = start < 2 ^ 64
    at register = (is_size (size_at props) ≡ true) × (start + bytes_of (width_of (size_at props)) ≤ 2 ^ 64) × IsDistinct same_step children
    at field = (is_field_within (bits_of (width_of (size_at props))) keys ≡ true) × (1 ≤ unwrap_or (value_of stated_dim keys) 1)
    at value = 1 ≤ length step.name
    at set = ⊤

-- an element that stands so often has a member of this index; one without an index stands where the first member does
abbrev pub IsAmong : Option ℕ → Option ℕ → Type 0
IsAmong dim None = ⊤
IsAmong dim (Some index) = index < unwrap_or dim 0

-- it says so of each member of the siblings, and of all below them
unfoldable pub FitIn : ℕ → Props → Forest Step Key → Type 0
FitIn start outer leaf = ⊤
FitIn start outer (node step keys children siblings) =
    ((index : Option ℕ) → IsAmong (value_of stated_dim keys) index → FitsHere (start + start_of keys index) (props_inside keys outer) step keys children × FitIn (start + start_of keys index) (props_inside keys outer) children)
    × FitIn start outer siblings

-- it says so of each of these registers and clusters, and of all below them
abbrev pub AllFit : ℕ → Props → List Item → Type 0
AllFit start outer items = All (λ item. FitIn start outer (siblings (item_under item ∷ []))) items

-- the path of a peripheral
abbrev pub peripheral_path : List ℕ → RowPath
peripheral_path name = record { slot = slot_name_of name; steps = [] }

-- the rows of the registers in peripherals, in a device of these properties
unfoldable pub rows_of_peripherals : Props → Forest Step Key → List TableRow
rows_of_peripherals outer leaf = []
rows_of_peripherals outer (node step keys children siblings) =
    rows_in (peripheral_path step.name) (start_of keys None) (props_inside keys outer) children ++ rows_of_peripherals outer siblings
