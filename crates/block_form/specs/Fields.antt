-- The struct of a block, child by child.
use Rattle.std.specs.Prelude.{ℕ, Bool, ◌&&◌, ◌==◌, ◌%◌, nat_le, max, List, [], ◌∷◌, ◌++◌, if◌then◌else◌}
use Rattle.frag_tree.specs.declared.block.StructField.{StructField}
use Rattle.block_form.specs.declared.child.Child.{Child}
use Rattle.block_form.specs.Children.{array_fits, child_end, field_of}
use Rattle.block_form.specs.Gaps.{gap_before, gaps_behind}

-- A child becomes a field of a struct whose last field ends here (0 where there is none) where its offset isn't below that, is a multiple of its alignment, and where an array has the size of its members as its stride or one member.
abbrev pub becomes_field : ℕ → Child → Bool
becomes_field end child = nat_le end child.offset && ((child.offset % child.align == 0) && array_fits child.size child.array)

-- those of the children, gone through in this order, that become fields behind what ends here
unfoldable pub taken_from : ℕ → List Child → List Child
taken_from end [] = []
taken_from end (child ∷ others) = if becomes_field end child then child ∷ taken_from (child_end child) others else taken_from end others

-- the fields of these behind what ends here and has so many gaps, each with a gap before it where there are bytes between
unfoldable pub fields_from : ℕ → ℕ → List Child → List StructField
fields_from end gaps [] = []
fields_from end gaps (child ∷ others) = gap_before end gaps child ++ (field_of child ∷ fields_from (child_end child) (gaps_behind end gaps child) others)

-- where the last of them ends
unfoldable pub end_from : ℕ → List Child → ℕ
end_from end [] = end
end_from end (child ∷ others) = end_from (child_end child) others

-- the greatest of their alignments, 1 where there is none
unfoldable pub greatest_align : List Child → ℕ
greatest_align [] = 1
greatest_align (child ∷ others) = max child.align (greatest_align others)
