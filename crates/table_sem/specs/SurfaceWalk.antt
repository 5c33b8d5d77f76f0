-- The surface of a description by a walk of its tree. The law that joins it with the flat rows is `surface_law`.
use Rattle.std.specs.Prelude.{cond, List, [], ◌∷◌, ◌++◌, Option, Some, None}
use Rattle.frag_sem.specs.Surfaces.{Entry, RegisterCalls}
use Rattle.reg_table.specs.Registers.{register_row}
use Rattle.reg_table.specs.Walk.{props_inside}
use Rattle.svd_model.specs.declared.props.Props.{Props}
use Rattle.svd_model.specs.Keys.{Key}
use Rattle.svd_model.specs.Stating.{is_of}
use Rattle.svd_model.specs.Steps.{Step, register}
use Rattle.svd_rows.specs.Forest.{Forest, leaf, node}
use Rattle.svd_rows.specs.Rows.{rows}
use Rattle.svd_values.specs.AccessorNames.{slot_name_of}
use Rattle.table_sem.specs.Names.{Named, accessor_of, is_named}
use Rattle.table_sem.specs.TableSurface.{entry_of, no_path, row_calls}

-- what an element with these keys and children offers, where it is a register in which these properties hold
abbrev pub calls_here : Props → Step → List Key → Forest Step Key → Option RegisterCalls
calls_here props step keys children = cond (is_of register step) (Some (row_calls (register_row no_path 0 props (rows (record { keys = keys; below = children }))))) None

-- the entry of an element of this name, where it has one
abbrev pub own_entry : Named → Props → Step → List Key → Forest Step Key → List Entry
own_entry name props step keys children = cond (is_named step) (entry_of name (calls_here props step keys children) ∷ []) []

-- the name of a child
abbrev pub name_inside : Named → Step → List Key → Named
name_inside name step keys = record { slot = name.slot; accessors = name.accessors ++ accessor_of step keys ∷ [] }

-- the entries of siblings and of all below them, whose parent has this name, and in which these properties hold
unfoldable pub entries_in : Named → Props → Forest Step Key → List Entry
entries_in name outer leaf = []
entries_in name outer (node step keys children others) =
    own_entry (name_inside name step keys) (props_inside keys outer) step keys children
    ++ (entries_in (name_inside name step keys) (props_inside keys outer) children ++ entries_in name outer others)

-- the name of a peripheral
abbrev pub peripheral_name : Step → Named
peripheral_name step = record { slot = slot_name_of step.name; accessors = [] }

-- the entries of peripherals and of all below them, in a device of these properties
unfoldable pub entries_of_peripherals : Props → Forest Step Key → List Entry
entries_of_peripherals outer leaf = []
entries_of_peripherals outer (node step keys children others) =
    own_entry (peripheral_name step) (props_inside keys outer) step keys children
    ++ (entries_in (peripheral_name step) (props_inside keys outer) children ++ entries_of_peripherals outer others)
