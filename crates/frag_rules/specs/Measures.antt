-- What a module takes in memory and where its last register ends, counted no further than 2^64 + 1.
use Rattle.std.specs.Prelude.{ℕ, ◌≡◌, ◌+◌, ◌-◌, ◌*◌, ◌/◌, ◌^◌, max, Bool, nat_le, List, [], ◌∷◌, Option, Some, None, option_map, option_and_then, unwrap_or, if◌then◌else◌}
use Rattle.std.specs.Int.{next_multiple_of}
use Rattle.std.specs.Borrow.{Bor}
use Rattle.std.specs.Map.{lookup}
use Rattle.std.specs.Str.{bytes_eq}
use Rattle.pac_base.specs.Widths.{bits_of}
use Rattle.frag_sem.specs.AddressEnds.{End, cut, greater, module_end}
use Rattle.frag_sem.specs.CallPlaces.{field_named, type_count}
use Rattle.frag_sem.specs.Layout.{Extent, extent_of, register_extent}
use Rattle.frag_tree.specs.declared.access.Access.{Access}
use Rattle.frag_tree.specs.declared.access.Body.{Body}
use Rattle.frag_tree.specs.declared.access.Body.TheVariants as body
use Rattle.frag_tree.specs.declared.block.Element.{Element}
use Rattle.frag_tree.specs.declared.block.FieldType.{FieldType}
use Rattle.frag_tree.specs.declared.block.FieldType.TheVariants as holds
use Rattle.frag_tree.specs.declared.block.StructField.{StructField}
use Rattle.frag_sem.specs.Modules.{module_of}
use Rattle.frag_rules.specs.Insides.{found_inside}
use Rattle.frag_rules.specs.Naming.{named_in}
use Rattle.frag_tree.specs.Trees.{BlockTree, Modules, ModuleTree, one_block, one_register}
use Rattle.frag_rules.specs.declared.extent.Room.{Room}
use Rattle.frag_rules.specs.declared.inside.Inside.{Inside}
use Rattle.frag_rules.specs.declared.layout.Layout.{Layout}
use Rattle.frag_rules.specs.declared.measure.Measure.{Measure}

-- ---- of a module

pub record Measured : Type 0 where
  pub room : Extent
  pub end : End

abbrev pub cut_extent : Extent → Extent
cut_extent extent = record { size = cut extent.size; align = extent.align }

-- what a module takes
abbrev pub module_extent : ModuleTree → Extent
module_extent (one_register unit) = register_extent unit
module_extent (one_block unit) = extent_of unit

abbrev pub measured : ModuleTree → Measured
measured tree = record { room = cut_extent (module_extent tree); end = option_map cut (module_end tree) }

abbrev pub room_seen : Room → Extent
room_seen room = record { size = room.size; align = bits_of room.align / 8 }

abbrev pub measure_seen : Measure → Measured
measure_seen measure = record { room = room_seen measure.room; end = measure.end }

-- a block is at most 2^64 bytes large
abbrev pub size_fits : BlockTree → Bool
size_fits unit = nat_le (extent_of unit).size (2 ^ 64)

-- ---- fields in order, by what each type takes

-- no bytes where a module isn't there
abbrev pub room_found : Option Measure → Extent
room_found None = record { size = 0; align = 1 }
room_found (Some measure) = room_seen measure.room

abbrev pub type_found : (Element → Option Measure) → FieldType → Extent
type_found look (holds.One element) = room_found (look element)
type_found look (holds.Array element count) = record { size = cut (count * (room_found (look element)).size); align = (room_found (look element)).align }
type_found look (holds.Gap bytes) = record { size = cut bytes; align = 1 }

abbrev pub place_at : (FieldType → Extent) → ℕ → StructField → ℕ
place_at takes end field = cut (next_multiple_of (cut end) (takes field.holds).align)

abbrev pub end_at : (FieldType → Extent) → ℕ → StructField → ℕ
end_at takes end field = cut (place_at takes end field + (takes field.holds).size)

-- the end of all fields behind this end
unfoldable pub end_cut : (FieldType → Extent) → ℕ → List StructField → ℕ
end_cut takes end [] = end
end_cut takes end (field ∷ others) = end_cut takes (end_at takes end field) others

-- the greatest alignment
unfoldable pub align_cut : (FieldType → Extent) → List StructField → ℕ
align_cut takes [] = 1
align_cut takes (field ∷ others) = max (takes field.holds).align (align_cut takes others)

-- the place of the first field that has the name
unfoldable pub place_cut : (FieldType → Extent) → ℕ → List StructField → List ℕ → Option ℕ
place_cut takes end [] name = None
place_cut takes end (field ∷ others) name = if bytes_eq name field.name then Some (place_at takes end field) else place_cut takes (end_at takes end field) others name

-- what the layout of a struct says
pub record LaidOut (takes : FieldType → Extent) (fields : List StructField) (layout : Layout) : Type 0 where
  pub end : layout.end ≡ end_cut takes 0 fields
  pub align : bits_of layout.align / 8 ≡ align_cut takes fields
  pub places : (name : List ℕ) → lookup (bytes_eq name) layout.places ≡ place_cut takes 0 fields name

-- ---- the last member of an accessor

-- how far the last member stands behind the start of the block; none where there are no members
abbrev pub steps_from : ℕ → ℕ → ℕ → ℕ
steps_from first step index = cut (first + cut (index * step))

abbrev pub last_from : ℕ → ℕ → Option ℕ → Option ℕ
last_from first step None = Some (cut first)
last_from first step (Some count) = if nat_le 1 count then Some (steps_from first step (count - 1)) else None

abbrev pub count_found : Option StructField → Option ℕ
count_found field = option_and_then (λ found. type_count found.holds) field

abbrev pub last_of : (List ℕ → Option StructField) → (List ℕ → Option ℕ) → ℕ → Body → Option ℕ
last_of find_field find_place size (body.Field field) = last_from (unwrap_or (find_place field) 0) 0 None
last_of find_field find_place size (body.Member field) = last_from (unwrap_or (find_place field) 0) size (count_found (find_field field))
last_of find_field find_place size (body.At offset) = last_from offset 0 None
last_of find_field find_place size (body.AtIndex offset stride count) = last_from offset stride (Some count)

-- an end behind that
abbrev pub end_behind_last : Option ℕ → End → End
end_behind_last None end = None
end_behind_last (Some last) end = option_map (λ n. cut (last + n)) end

-- the end in a module
abbrev pub end_found : Option Measure → End
end_found measure = option_and_then (λ found. found.end) measure

abbrev pub access_cut : (List ℕ → Option StructField) → (List ℕ → Option ℕ) → (Element → Option Measure) → Access → End
access_cut find_field find_place look access =
    end_behind_last (last_of find_field find_place (room_found (look access.element)).size access.body) (end_found (look access.element))

-- the greatest of all
unfoldable pub accessors_cut : (List ℕ → Option StructField) → (List ℕ → Option ℕ) → (Element → Option Measure) → List Access → End
accessors_cut find_field find_place look [] = None
accessors_cut find_field find_place look (first ∷ others) = greater (access_cut find_field find_place look first) (accessors_cut find_field find_place look others)

-- the place of a name in a layout
abbrev pub place_found : Layout → List ℕ → Option ℕ
place_found layout name = lookup (bytes_eq name) layout.places

-- each module inside is measured
abbrev pub Knows : Inside Measure → Modules → Type 0
Knows inside modules = (wanted : Element) → option_map measure_seen (found_inside inside wanted) ≡ option_map measured (module_of wanted modules)

-- the modules of a block are measured, and its struct is laid out with its fields under their names
pub record HasLaid (unit : BlockTree) (inside : Inside Measure) (fields : List (List ℕ × Bor StructField)) (layout : Layout) : Type 0 where
  pub knows : Knows inside unit.inside
  pub found : (name : List ℕ) → named_in fields name ≡ field_named name unit.head.fields
  pub laid : LaidOut (type_found (found_inside inside)) unit.head.fields layout

-- a block at the top, measured
abbrev pub block_measured : BlockTree → Measured
block_measured unit = measured (one_block unit)
