-- Which register a chain of accessors leads to, and at which address: this project's own reading of the accessors of a crate text. Addresses and offsets are in bytes.
use Rattle.std.specs.Prelude.{ℕ, ◌+◌, ◌*◌, ◌/◌, Bool, true, false, nat_lt, List, [], ◌∷◌, find, Option, Some, None, option_and_then, unwrap_or, if◌then◌else◌}
use Rattle.std.specs.Str.{bytes_eq}
use Rattle.pac_base.specs.Widths.{bits_of}
use Rattle.frag_tree.specs.declared.access.Access.{Access}
use Rattle.frag_tree.specs.declared.access.Body.{Body}
use Rattle.frag_tree.specs.declared.access.Body.TheVariants as body
use Rattle.frag_tree.specs.declared.block.FieldType.{FieldType}
use Rattle.frag_tree.specs.declared.block.FieldType.TheVariants as holds
use Rattle.frag_tree.specs.declared.block.StructField.{StructField}
use Rattle.frag_tree.specs.declared.krate.Slot.{Slot}
use Rattle.frag_tree.specs.declared.register.RegisterModule.{RegisterModule}
use Rattle.frag_tree.specs.declared.statement.Place.{Place}
use Rattle.frag_tree.specs.declared.statement.Call.{Call}
use Rattle.frag_tree.specs.Trees.{BlockTree, CrateTree, ModuleTree, one_register, one_block}
use Rattle.frag_sem.specs.Layout.{element_size, place_of}
use Rattle.frag_sem.specs.Modules.{module_of, top_block}

-- ---- one accessor

-- the accessor that has the name
abbrev pub access_named : List ℕ → List Access → Option Access
access_named name accessors = find (λ access. bytes_eq name access.name) accessors

-- the field of a struct that has the name
abbrev pub field_named : List ℕ → List StructField → Option StructField
field_named name fields = find (λ field. bytes_eq name field.name) fields

-- how many members an array has; none for what is no array
abbrev pub type_count : FieldType → Option ℕ
type_count (holds.One element) = None
type_count (holds.Array element count) = Some count
type_count (holds.Gap bytes) = None

-- how many members an accessor leads to; none where it takes no index
abbrev pub body_count : List StructField → Body → Option ℕ
body_count fields (body.Field field) = None
body_count fields (body.Member field) = option_and_then (λ found. type_count found.holds) (field_named field fields)
body_count fields (body.At offset) = None
body_count fields (body.AtIndex offset stride count) = Some count

abbrev pub count_of : BlockTree → Access → Option ℕ
count_of unit access = body_count unit.head.fields access.body

-- an index stands just where there is a count, and is below it
abbrev pub admits : Option ℕ → Option ℕ → Bool
admits None None = true
admits None (Some index) = false
admits (Some count) None = false
admits (Some count) (Some index) = nat_lt index count

-- How far behind the start of the block the member of this index stands: the place of the struct's field, for an array and the index times the size of the element; or the stated offset, and the index times the stride.
abbrev pub body_offset : BlockTree → Access → Body → ℕ → ℕ
body_offset unit access (body.Field field) index = unwrap_or (place_of unit field) 0
body_offset unit access (body.Member field) index = unwrap_or (place_of unit field) 0 + index * element_size unit access.element
body_offset unit access (body.At offset) index = offset
body_offset unit access (body.AtIndex offset stride count) index = offset + index * stride

abbrev pub offset_of : BlockTree → Access → Option ℕ → ℕ
offset_of unit access index = body_offset unit access access.body (unwrap_or index 0)

-- ---- a chain of accessors

-- a register at its address
pub record RegisterAt : Type 0 where
  pub address : ℕ
  pub register : RegisterModule

-- where a chain ends: a register, or a block, which is none
abbrev pub ended_at : ModuleTree → ℕ → Option RegisterAt
ended_at (one_register unit) start = Some (record { address = start; register = unit })
ended_at (one_block unit) start = None

-- through an accessor of a block that starts here, to the element's module where it starts
abbrev pub through : BlockTree → ℕ → Call → Access → (ModuleTree → ℕ → Option RegisterAt) → Option RegisterAt
through unit start step access others =
    if admits (count_of unit access) step.index
    then option_and_then (λ inner. others inner (start + offset_of unit access step.index)) (module_of access.element unit.inside)
    else None

-- through the accessor of a module that a step names
abbrev pub into : ModuleTree → ℕ → Call → (ModuleTree → ℕ → Option RegisterAt) → Option RegisterAt
into (one_register unit) start step others = None
into (one_block unit) start step others = option_and_then (λ access. through unit start step access others) (access_named step.name unit.head.accessors)

-- the register to which accessors lead from a module that starts here; none where they lead to no register
unfoldable pub leads : List Call → ModuleTree → ℕ → Option RegisterAt
leads [] unit start = ended_at unit start
leads (step ∷ steps) unit start = into unit start step (leads steps)

-- from a slot
abbrev pub from_slot : CrateTree → List Call → Slot → Option RegisterAt
from_slot krate steps slot = option_and_then (λ unit. leads steps (one_block unit) slot.address) (top_block slot.block krate.blocks)

-- the slot that has the name
abbrev pub slot_named : List ℕ → List Slot → Option Slot
slot_named name slots = find (λ slot. bytes_eq name slot.name) slots

-- the register of a place, with its address
unfoldable pub register_at : CrateTree → Place → Option RegisterAt
register_at krate place = option_and_then (from_slot krate place.steps) (slot_named place.slot krate.slots)

-- how many bytes a register has
abbrev pub bytes_of : RegisterModule → ℕ
bytes_of unit = bits_of unit.word / 8
