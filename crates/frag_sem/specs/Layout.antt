-- Where the fields of a struct stand, in bytes (the C layout of Rust's reference, `repr(C)`, of structs of registers, blocks, arrays and byte gaps).
use Rattle.std.specs.Prelude.{ℕ, ◌+◌, ◌*◌, ◌/◌, max, List, [], ◌∷◌, fold, find, Option, Some, None, option_map}
use Rattle.std.specs.Int.{next_multiple_of}
use Rattle.std.specs.Str.{bytes_eq}
use Rattle.pac_base.specs.Widths.{bits_of}
use Rattle.frag_tree.specs.declared.block.Element.{Element}
use Rattle.frag_tree.specs.declared.block.FieldType.{FieldType}
use Rattle.frag_tree.specs.declared.block.FieldType.TheVariants as holds
use Rattle.frag_tree.specs.declared.block.StructField.{StructField}
use Rattle.frag_tree.specs.declared.register.RegisterModule.{RegisterModule}
use Rattle.frag_tree.specs.Trees.{BlockHead, BlockTree, Modules}
use Rattle.frag_sem.specs.Modules.{beside, each_module}

-- what a type takes in memory, in bytes
pub record Extent : Type 0 where
  pub size : ℕ
  pub align : ℕ

-- what each module of a parent takes
abbrev pub Extents : Type 0
Extents = List (Element × Extent)

-- no bytes: what an element takes whose module isn't there
abbrev pub extent_or_none : Option Extent → Extent
extent_or_none None = record { size = 0; align = 1 }
extent_or_none (Some extent) = extent

abbrev pub element_extent : Extents → Element → Extent
element_extent known element = extent_or_none (beside element known)

-- an array takes so many elements; a gap takes its bytes
abbrev pub type_extent : Extents → FieldType → Extent
type_extent known (holds.One element) = element_extent known element
type_extent known (holds.Array element count) = record { size = count * (element_extent known element).size; align = (element_extent known element).align }
type_extent known (holds.Gap bytes) = record { size = bytes; align = 1 }

-- a field stands at the next multiple of its alignment at or after the end of the one before
abbrev pub place_behind : Extents → ℕ → StructField → ℕ
place_behind known end field = next_multiple_of end (type_extent known field.holds).align

-- where it ends
abbrev pub end_behind : Extents → ℕ → StructField → ℕ
end_behind known end field = place_behind known end field + (type_extent known field.holds).size

-- fields in order behind what ends here, each with its place
unfoldable pub placed_behind : Extents → ℕ → List StructField → List (StructField × ℕ)
placed_behind known end [] = []
placed_behind known end (field ∷ others) = (field, place_behind known end field) ∷ placed_behind known (end_behind known end field) others

-- the fields of a struct, each with its place
abbrev pub placed : Extents → List StructField → List (StructField × ℕ)
placed known fields = placed_behind known 0 fields

-- the end of the last field, or 0 where there is none
abbrev pub end_of : Extents → List StructField → ℕ
end_of known fields = fold (end_behind known) 0 fields

-- the greatest alignment of the fields, 1 where there is none
unfoldable pub align_of : Extents → List StructField → ℕ
align_of known [] = 1
align_of known (field ∷ others) = max (type_extent known field.holds).align (align_of known others)

-- a register of N bits takes N/8 bytes, and stands at multiples of that
abbrev pub register_extent : RegisterModule → Extent
register_extent unit = record { size = bits_of unit.word / 8; align = bits_of unit.word / 8 }

-- a block has the greatest alignment of its fields, and ends at a multiple of that
abbrev pub block_extent : BlockHead → Extents → Extent
block_extent head known = record { size = next_multiple_of (end_of known head.fields) (align_of known head.fields); align = align_of known head.fields }

-- what the modules of one parent take
unfoldable pub extents : Modules → Extents
extents modules = each_module register_extent block_extent modules

-- ---- of a block

-- the size of an element of the block, in bytes
abbrev pub element_size : BlockTree → Element → ℕ
element_size unit element = (element_extent (extents unit.inside) element).size

-- the size and the alignment of the block itself
abbrev pub extent_of : BlockTree → Extent
extent_of unit = block_extent unit.head (extents unit.inside)

-- the place of the field that has the name, counted from the start of the block
abbrev pub place_named : Extents → List StructField → List ℕ → Option ℕ
place_named known fields name = option_map (λ found. found.1) (find (λ entry. bytes_eq name entry.0.name) (placed known fields))

abbrev pub place_of : BlockTree → List ℕ → Option ℕ
place_of unit name = place_named (extents unit.inside) unit.head.fields name
