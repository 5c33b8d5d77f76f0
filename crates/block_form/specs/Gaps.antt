-- Bytes of a struct that belong to no child: fields `_reservedN`, N counted from 0 in each block.
use Rattle.std.specs.Prelude.{ℕ, ◌≡◌, ◌+◌, ◌-◌, nat_lt, false, List, [], ◌∷◌, ◌++◌, codes, decimal, if◌then◌else◌}
use Rattle.std.specs.List.{AllByRecursion}
use Rattle.std.specs.Str.{bytes_eq}
use Rattle.frag_tree.specs.declared.block.FieldType.TheVariants as holds
use Rattle.frag_tree.specs.declared.block.StructField.{StructField}
use Rattle.block_form.specs.declared.child.Child.{Child}

-- `_reservedN`
unfoldable pub gap_name : ℕ → List ℕ
gap_name number = codes "_reserved" ++ decimal number

abbrev pub gap_field : ℕ → ℕ → StructField
gap_field number bytes = record { name = gap_name number; holds = holds.Gap bytes }

-- a gap before a child, exactly where its offset is greater than the end of what stands before it
abbrev pub gap_before : ℕ → ℕ → Child → List StructField
gap_before end number child = if nat_lt end child.offset then gap_field number (child.offset - end) ∷ [] else []

-- how many gaps there are then
abbrev pub gaps_behind : ℕ → ℕ → Child → ℕ
gaps_behind end number child = if nat_lt end child.offset then number + 1 else number

-- it is no name of a gap
abbrev pub IsNoGap : List ℕ → Type 0
IsNoGap name = (number : ℕ) → bytes_eq name (gap_name number) ≡ false

-- no child has the name of a gap
abbrev pub NoGaps : List Child → Type 0
NoGaps children = AllByRecursion (λ child. IsNoGap child.name) children
