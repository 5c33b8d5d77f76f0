-- The children of a block: what each takes in memory, and its field in a struct (this project's own rules of emission). Offsets, sizes, strides and alignments are in bytes.
use Rattle.std.specs.Prelude.{ℕ, ◌≡◌, ◌+◌, ◌*◌, ◌%◌, ◌≤◌, ◌^◌, ◌==◌, ◌||◌, ◌⊎◌, Bool, true, List, Option, Some, None, option_map, unwrap_or, nat_le}
use Rattle.frag_tree.specs.declared.block.Element.{Element}
use Rattle.frag_tree.specs.declared.block.Element.TheVariants as element
use Rattle.frag_tree.specs.declared.block.FieldType.{FieldType}
use Rattle.frag_tree.specs.declared.block.FieldType.TheVariants as holds
use Rattle.frag_tree.specs.declared.block.StructField.{StructField}
use Rattle.frag_sem.specs.CallPlaces.{admits}
use Rattle.frag_sem.specs.Layout.{Extent}
use Rattle.block_form.specs.declared.child.Array.{Array}
use Rattle.block_form.specs.declared.child.Child.{Child}
use Rattle.block_form.specs.declared.child.ChildKind.{ChildKind}
use Rattle.block_form.specs.declared.child.ChildKind.TheVariants as kind

-- ---- what a child is

abbrev pub element_named : ChildKind → List ℕ → Element
element_named kind.Register name = element.Register name
element_named kind.Block name = element.Block name

-- the module of its name, as a register or as a block
abbrev pub element_of : Child → Element
element_of child = element_named child.kind child.name

-- what it takes; of an array, what each member takes
abbrev pub child_extent : Child → Extent
child_extent child = record { size = child.size; align = child.align }

-- how many members an array has; none for what is no array
abbrev pub child_count : Child → Option ℕ
child_count child = option_map (λ (array : Array). array.count) child.array

abbrev pub place_in : ℕ → Option Array → Option ℕ → ℕ
place_in offset None index = offset
place_in offset (Some array) index = offset + unwrap_or index 0 * array.stride

-- where it stands behind the start of the block; of an array, where the member of this index stands
abbrev pub child_place : Child → Option ℕ → ℕ
child_place child index = place_in child.offset child.array index

-- ---- as a field

abbrev pub held : Element → Option Array → FieldType
held unit None = holds.One unit
held unit (Some array) = holds.Array unit array.count

abbrev pub field_of : Child → StructField
field_of child = record { name = child.name; holds = held (element_of child) child.array }

-- the members of an array in a struct stand one behind the other
abbrev pub bytes_held : ℕ → Option Array → ℕ
bytes_held size None = size
bytes_held size (Some array) = array.count * size

-- where it ends as a field
abbrev pub child_end : Child → ℕ
child_end child = child.offset + bytes_held child.size child.array

-- an array in a struct has the size of its members as its stride, or one member
abbrev pub array_fits : ℕ → Option Array → Bool
array_fits size None = true
array_fits size (Some array) = (array.stride == size) || (array.count == 1)

-- ---- what a child keeps

-- the size of a register of 8, 16, 32 or 64 bits
abbrev pub IsAlignment : ℕ → Type 0
IsAlignment align = (align ≡ 1) ⊎ ((align ≡ 2) ⊎ ((align ≡ 4) ⊎ (align ≡ 8)))

abbrev pub has_members : Option ℕ → Bool
has_members None = true
has_members (Some count) = nat_le 1 count

-- It is aligned as a register is; an array has a member; and it ends in the address range, each member of an array too.
pub record IsSound (child : Child) : Type 0 where
  pub aligned : IsAlignment child.align
  pub some : has_members (child_count child) ≡ true
  pub within : (index : Option ℕ) → admits (child_count child) index ≡ true → child_place child index + child.size ≤ 2 ^ 64

-- The same in a block that starts at this address, and that each member stands at a multiple of its alignment.
pub record FitsFrom (start : ℕ) (child : Child) : Type 0 where
  pub aligned : IsAlignment child.align
  pub some : has_members (child_count child) ≡ true
  pub stands : (index : Option ℕ) → admits (child_count child) index ≡ true → (start + child_place child index) % child.align ≡ 0
  pub within : (index : Option ℕ) → admits (child_count child) index ≡ true → start + (child_place child index + child.size) ≤ 2 ^ 64
