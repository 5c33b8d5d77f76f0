-- Which register stands at a place, as a relation that has no case for what isn't there: a name of nothing, an index too many or too few or too great, a field without its type. Addresses and offsets are in bytes.
use Rattle.std.specs.Prelude.{ℕ, ◌≡◌, ◌+◌, ◌*◌, ◌<◌, Bool, IsTrue, List, [], ◌∷◌, Option, Some, None}
use Rattle.std.specs.List.{list_all}
use Rattle.frag_tree.specs.declared.access.Access.{Access}
use Rattle.frag_tree.specs.declared.access.Body.{Body}
use Rattle.frag_tree.specs.declared.access.Body.TheVariants as body
use Rattle.frag_tree.specs.declared.block.Element.{Element}
use Rattle.frag_tree.specs.declared.block.FieldType.{FieldType}
use Rattle.frag_tree.specs.declared.block.FieldType.TheVariants as holds
use Rattle.frag_tree.specs.declared.block.StructField.{StructField}
use Rattle.frag_tree.specs.declared.krate.Slot.{Slot}
use Rattle.frag_tree.specs.declared.statement.Call.{Call}
use Rattle.frag_tree.specs.declared.statement.Place.{Place}
use Rattle.frag_tree.specs.Trees.{BlockTree, CrateTree, ModuleTree, one_register, one_block}
use Rattle.frag_sem.specs.CallPlaces.{RegisterAt, access_named, field_named, slot_named}
use Rattle.frag_sem.specs.CrateTyping.{names_module}
use Rattle.frag_sem.specs.Layout.{Extent, extents, place_of}
use Rattle.frag_sem.specs.Modules.{beside, blocks_in, module_of, top_block}

-- each field of the struct has a type that is there, and so has each field of the blocks inside
abbrev pub is_laid_out : BlockTree → Bool
is_laid_out unit = list_all (λ inner. list_all (λ field. names_module inner.inside field.holds) inner.head.fields) (unit ∷ blocks_in unit.inside)

-- the field of a struct that has the name is of this type, and stands here
pub record FieldAt (unit : BlockTree) (name : List ℕ) (type : FieldType) (place : ℕ) : Type 0 where
  pub laid_out : IsTrue (is_laid_out unit)
  pub field : StructField
  pub named : field_named name unit.head.fields ≡ Some field
  pub type_is : field.holds ≡ type
  pub place_is : place_of unit name ≡ Some place

-- the member of this index of the array that has the name stands here
pub record MemberAt (unit : BlockTree) (name : List ℕ) (element : Element) (index offset : ℕ) : Type 0 where
  pub count : ℕ
  pub place : ℕ
  pub array : FieldAt unit name (holds.Array element count) place
  pub below : index < count
  pub extent : Extent
  pub extent_is : beside element (extents unit.inside) ≡ Some extent
  pub offset_is : offset ≡ place + index * extent.size

-- how far behind the start of a block an accessor leads, by its body and an index or none
abbrev pub BodyIs : BlockTree → Element → Body → Option ℕ → ℕ → Type 0
BodyIs unit element (body.Field field) None offset = FieldAt unit field (holds.One element) offset
BodyIs unit element (body.Field field) (Some index) offset = ⊥
BodyIs unit element (body.Member field) None offset = ⊥
BodyIs unit element (body.Member field) (Some index) offset = MemberAt unit field element index offset
BodyIs unit element (body.At start) None offset = offset ≡ start
BodyIs unit element (body.At start) (Some index) offset = ⊥
BodyIs unit element (body.AtIndex start stride count) None offset = ⊥
BodyIs unit element (body.AtIndex start stride count) (Some index) offset = (index < count) × (offset ≡ start + index * stride)

-- an accessor that a call names leads from a block that starts here to a module, from which the others lead on
pub record Through (unit : BlockTree) (start : ℕ) (step : Call) (others : ModuleTree → ℕ → Type 0) : Type 0 where
  pub access : Access
  pub named : access_named step.name unit.head.accessors ≡ Some access
  pub offset : ℕ
  pub offset_is : BodyIs unit access.element access.body step.index offset
  pub inner : ModuleTree
  pub inner_is : module_of access.element unit.inside ≡ Some inner
  pub onward : others inner (start + offset)

-- accessors lead from a module that starts here to a register
unfoldable pub LeadsTo : RegisterAt → List Call → ModuleTree → ℕ → Type 0
LeadsTo found [] (one_register unit) start = found ≡ record { address = start; register = unit }
LeadsTo found [] (one_block unit) start = ⊥
LeadsTo found (step ∷ steps) (one_register unit) start = ⊥
LeadsTo found (step ∷ steps) (one_block unit) start = Through unit start step (LeadsTo found steps)

-- The register stands at the place: its slot is there and has its block, and the accessors lead from there to it.
pub record PlaceIs (krate : CrateTree) (place : Place) (found : RegisterAt) : Type 0 where
  pub slot : Slot
  pub slot_is : slot_named place.slot krate.slots ≡ Some slot
  pub unit : BlockTree
  pub unit_is : top_block slot.block krate.blocks ≡ Some unit
  pub leads : LeadsTo found place.steps (one_block unit) slot.address
