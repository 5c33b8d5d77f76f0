-- Worked rows: the forms of small blocks, by computation.
use Rattle.std.specs.Prelude.{◌≡◌, ℕ, true, false, Some, None, List, [], ◌∷◌, codes, refl, ⊤}
use Rattle.std.specs.Fmt.{digits}
use Rattle.frag_tree.specs.declared.access.Access.{Access}
use Rattle.frag_tree.specs.declared.access.Body.{Body}
use Rattle.frag_tree.specs.declared.access.Body.TheVariants as body
use Rattle.frag_tree.specs.declared.block.Element.TheVariants as element
use Rattle.frag_tree.specs.declared.block.FieldType.TheVariants as holds
use Rattle.frag_tree.specs.declared.block.StructField.{StructField}
use Rattle.block_form.specs.declared.child.Child.{Child}
use Rattle.block_form.specs.declared.child.ChildKind.TheVariants as kind
use Rattle.block_form.specs.Fields.{end_from, fields_from, greatest_align, taken_from}
use Rattle.block_form.specs.Forms.{form_of}
use Rattle.block_form.specs.Gaps.{gap_field, gap_name}
use Rattle.block_form.specs.Order.{ordered_by, put_in}

-- a register of so many bytes at this offset
abbrev pub register_at : List ℕ → ℕ → ℕ → Child
register_at name offset bytes = record { name = name; kind = kind.Register; offset = offset; size = bytes; align = bytes; array = None }

-- a block inside that takes so many bytes
abbrev pub block_at : List ℕ → ℕ → ℕ → ℕ → Child
block_at name offset size align = record { name = name; kind = kind.Block; offset = offset; size = size; align = align; array = None }

abbrev pub array_of : Child → ℕ → ℕ → Child
array_of child count stride = record child { array = Some (record { count = count; stride = stride }) }

abbrev pub register_field : List ℕ → StructField
register_field name = record { name = name; holds = holds.One (element.Register name) }

abbrev pub block_field : List ℕ → StructField
block_field name = record { name = name; holds = holds.One (element.Block name) }

abbrev pub by_field : List ℕ → Access
by_field name = record { name = name; is_indexed = false; element = element.Register name; body = body.Field name }

abbrev pub by_place : List ℕ → ℕ → Access
by_place name offset = record { name = name; is_indexed = false; element = element.Register name; body = body.At offset }

-- a block inside, by this body
abbrev pub block_by : List ℕ → Body → Access
block_by name where_it_is = record { name = name; is_indexed = false; element = element.Block name; body = where_it_is }

-- the members of an array of registers
abbrev pub members : List ℕ → Body → Access
members name where_they_are = record { name = name; is_indexed = true; element = element.Register name; body = where_they_are }

abbrev pub array_field : List ℕ → ℕ → StructField
array_field name count = record { name = name; holds = holds.Array (element.Register name) count }

-- what forms are computed with
form_words : ⊤
unfolding ordered_by put_in taken_from fields_from end_from greatest_align gap_name
form_words = tt

-- A of 32 bits at 0, B of 16 at 0, C of 32 at 4: the struct has `a` and `c`, and `b` is reached by `at(self, 0x0)`.
pub union_by_offset :
    form_of (register_at (codes "a") 0 4 ∷ register_at (codes "b") 0 2 ∷ register_at (codes "c") 4 4 ∷ [])
    ≡ record {
      fields = register_field (codes "a") ∷ register_field (codes "c") ∷ [];
      accessors = by_field (codes "a") ∷ by_place (codes "b") 0 ∷ by_field (codes "c") ∷ [];
      size = 8;
      align = 4;
    }
unfolding form_words
union_by_offset = refl

-- The struct goes by offset, the accessors go as the children are declared; gaps are counted from 0.
pub declared_backwards :
    form_of (register_at (codes "z") 12 4 ∷ register_at (codes "y") 6 1 ∷ register_at (codes "x") 0 4 ∷ [])
    ≡ record {
      fields = register_field (codes "x") ∷ gap_field 0 2 ∷ register_field (codes "y") ∷ gap_field 1 5 ∷ register_field (codes "z") ∷ [];
      accessors = by_field (codes "z") ∷ by_field (codes "y") ∷ by_field (codes "x") ∷ [];
      size = 16;
      align = 4;
    }
unfolding form_words
declared_backwards = refl

-- `_reserved0`
pub first_gap : gap_name 0 ≡ codes "_reserved0"
unfolding form_words digits
first_gap = refl

-- A block of 8 bytes that stands at multiples of 4: at 4 behind a byte, after three that belong to no child; at 6 it is no multiple of 4 and is reached by its offset.
pub aligned_block :
    form_of (register_at (codes "x") 0 1 ∷ block_at (codes "cl") 4 8 4 ∷ [])
    ≡ record {
      fields = register_field (codes "x") ∷ gap_field 0 3 ∷ block_field (codes "cl") ∷ [];
      accessors = by_field (codes "x") ∷ block_by (codes "cl") (body.Field (codes "cl")) ∷ [];
      size = 12;
      align = 4;
    }
unfolding form_words
aligned_block = refl

pub block_out_of_line :
    form_of (register_at (codes "x") 0 1 ∷ block_at (codes "cl") 6 8 4 ∷ [])
    ≡ record {
      fields = register_field (codes "x") ∷ [];
      accessors = by_field (codes "x") ∷ block_by (codes "cl") (body.At 6) ∷ [];
      size = 1;
      align = 1;
    }
unfolding form_words
block_out_of_line = refl

-- A block with a register of four bytes and one of one takes 8 bytes, so what stands in the three at its end is reached by its offset.
pub what_stands_in_the_padding :
    form_of (block_at (codes "cl") 0 8 4 ∷ register_at (codes "y") 6 1 ∷ register_at (codes "z") 8 4 ∷ [])
    ≡ record {
      fields = block_field (codes "cl") ∷ register_field (codes "z") ∷ [];
      accessors = block_by (codes "cl") (body.Field (codes "cl")) ∷ by_place (codes "y") 6 ∷ by_field (codes "z") ∷ [];
      size = 12;
      align = 4;
    }
unfolding form_words
what_stands_in_the_padding = refl

-- the block inside takes so much
pub size_of_inner_block :
    form_of (register_at (codes "a") 0 4 ∷ register_at (codes "b") 4 1 ∷ [])
    ≡ record {
      fields = register_field (codes "a") ∷ register_field (codes "b") ∷ [];
      accessors = by_field (codes "a") ∷ by_field (codes "b") ∷ [];
      size = 8;
      align = 4;
    }
unfolding form_words
size_of_inner_block = refl

-- Four registers of four bytes, 16 bytes apart, are no array of the struct; 4 bytes apart they are one, and one register alone is, whatever is stated.
pub array_with_holes :
    form_of (array_of (register_at (codes "ch") 0 4) 4 16 ∷ [])
    ≡ record { fields = []; accessors = members (codes "ch") (body.AtIndex 0 16 4) ∷ []; size = 0; align = 1 }
unfolding form_words
array_with_holes = refl

pub array_without_holes :
    form_of (array_of (register_at (codes "ch") 8 4) 4 4 ∷ [])
    ≡ record {
      fields = gap_field 0 8 ∷ array_field (codes "ch") 4 ∷ [];
      accessors = members (codes "ch") (body.Member (codes "ch")) ∷ [];
      size = 24;
      align = 4;
    }
unfolding form_words
array_without_holes = refl

pub array_of_one :
    form_of (array_of (register_at (codes "ch") 0 4) 1 16 ∷ register_at (codes "z") 4 4 ∷ [])
    ≡ record {
      fields = array_field (codes "ch") 1 ∷ register_field (codes "z") ∷ [];
      accessors = members (codes "ch") (body.Member (codes "ch")) ∷ by_field (codes "z") ∷ [];
      size = 8;
      align = 4;
    }
unfolding form_words
array_of_one = refl

-- Of two at one offset the one that is declared first is in the struct.
pub equal_offsets :
    form_of (register_at (codes "b") 0 2 ∷ register_at (codes "a") 0 4 ∷ [])
    ≡ record {
      fields = register_field (codes "b") ∷ [];
      accessors = by_field (codes "b") ∷ by_place (codes "a") 0 ∷ [];
      size = 2;
      align = 2;
    }
unfolding form_words
equal_offsets = refl

-- A block without children takes no bytes, and a register may stand at its offset.
pub empty_block :
    form_of (block_at (codes "cl") 0 0 1 ∷ register_at (codes "a") 0 4 ∷ [])
    ≡ record {
      fields = block_field (codes "cl") ∷ register_field (codes "a") ∷ [];
      accessors = block_by (codes "cl") (body.Field (codes "cl")) ∷ by_field (codes "a") ∷ [];
      size = 4;
      align = 4;
    }
unfolding form_words
empty_block = refl

-- no children
pub nothing_inside : form_of [] ≡ record { fields = []; accessors = []; size = 0; align = 1 }
unfolding form_words
nothing_inside = refl
