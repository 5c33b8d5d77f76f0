-- The members of registers below siblings, by a walk of the tree. That these are the members of the flat rows is proved.
use Rattle.std.specs.Prelude.{ℕ, ◌+◌, ◌&&◌, cond, List, [], ◌∷◌, ◌++◌, Option, None, is_some}
use Rattle.std.specs.List.{flat_map}
use Rattle.overlap_sweep.specs.Fields.{shared_fields}
use Rattle.overlap_sweep.specs.Overlaps.{stated_alternate, stated_group}
use Rattle.overlap_sweep.specs.declared.spot.Spot.{Spot}
use Rattle.overlap_sweep.specs.declared.spot.Way.{Way}
use Rattle.reg_table.specs.Walk.{props_inside}
use Rattle.svd_model.specs.declared.props.Props.{Props}
use Rattle.svd_model.specs.Checking.{bytes_of, width_of}
use Rattle.svd_model.specs.Keys.{Key}
use Rattle.svd_model.specs.Properties.{size_at}
use Rattle.svd_model.specs.Stating.{value_of, stated_dim, indexes_of, is_of, start_of}
use Rattle.svd_model.specs.Steps.{Step, cluster, register}
use Rattle.svd_rows.specs.Forest.{Forest, Tree, leaf, node}
use Rattle.svd_rows.specs.Rows.{Row, rows}

-- the step into a member of an element
abbrev pub way_step : Step → List Key → Option ℕ → Way
way_step step keys index = record {
  name = step.name;
  number = step.number;
  index = index;
  alternate = is_of cluster step && is_some (value_of stated_alternate keys);
}

-- the way to a member of an element whose parent has this way
abbrev pub way_inside : List Way → Step → List Key → Option ℕ → List Way
way_inside way step keys index = way ++ way_step step keys index ∷ []

-- a member of a register: its way, name and address, what holds and is stated there, and its
-- rows, seen from itself
unfoldable pub spot_of : List Way → List ℕ → ℕ → Props → List Key → List (Row Step Key) → Spot
spot_of way name start props keys own = record {
  way = way;
  name = name;
  start = start;
  bytes = bytes_of (width_of (size_at props));
  alternate = value_of stated_alternate keys;
  grouped = is_some (value_of stated_group keys);
  shared = shared_fields props own;
}

-- the members of registers among siblings and below them, whose parent has this way, starts here, and in which these
-- properties hold: each member with what is below it precedes the next
unfoldable pub spots_in : List Way → ℕ → Props → Forest Step Key → List Spot
spots_in way start outer leaf = []
spots_in way start outer (node step keys children siblings) =
    flat_map (λ index.
    cond (is_of register step) (spot_of (way_inside way step keys index) step.name (start + start_of keys index) (props_inside keys outer) keys (rows (record { keys = keys; below = children })) ∷ []) []
    ++ spots_in (way_inside way step keys index) (start + start_of keys index) (props_inside keys outer) children) (indexes_of (value_of stated_dim keys))
    ++ spots_in way start outer siblings

-- those of one member of an element: its own, where it is a register, and those of the registers below it
abbrev pub member_spots : List Way → ℕ → Props → (Step × Tree Step Key) → Option ℕ → List Spot
member_spots way start outer element index =
    cond (is_of register element.0) (spot_of (way_inside way element.0 element.1.keys index) element.0.name (start + start_of element.1.keys index) (props_inside element.1.keys outer) element.1.keys (rows (record { keys = element.1.keys; below = element.1.below })) ∷ []) []
    ++ spots_in (way_inside way element.0 element.1.keys index) (start + start_of element.1.keys index) (props_inside element.1.keys outer) element.1.below

-- the way to a peripheral
abbrev pub peripheral_way : Step → List Key → List Way
peripheral_way step keys = way_step step keys None ∷ []

-- the members of the registers in peripherals, in a device of these properties
unfoldable pub spots_of_peripherals : Props → Forest Step Key → List Spot
spots_of_peripherals outer leaf = []
spots_of_peripherals outer (node step keys children siblings) =
    spots_in (peripheral_way step keys) (start_of keys None) (props_inside keys outer) children ++ spots_of_peripherals outer siblings
