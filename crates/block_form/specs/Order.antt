-- Children by offset.
use Rattle.std.specs.Prelude.{ℕ, nat_le, List, [], ◌∷◌, if◌then◌else◌}
use Rattle.std.specs.List.Sorted.{IsNonDecreasingBy, IsStableByKey}
use Rattle.std.specs.Ordering.{nat_cmp}
use Rattle.block_form.specs.declared.child.Child.{Child}

-- before the first that isn't below it
unfoldable pub put_in : {A : Type 0} → (A → ℕ) → A → List A → List A
put_in key item [] = item ∷ []
put_in key item (first ∷ others) = if nat_le (key item) (key first) then item ∷ (first ∷ others) else first ∷ put_in key item others

-- by a number, equal ones as they stood
unfoldable pub ordered_by : {A : Type 0} → (A → ℕ) → List A → List A
ordered_by key [] = []
ordered_by key (item ∷ others) = put_in key item (ordered_by key others)

abbrev pub by_offset : List Child → List Child
by_offset children = ordered_by (λ child. child.offset) children

-- The same children by offset, those of one offset as they stood.
pub record IsByOffset (children order : List Child) : Type 0 where
  pub rises : IsNonDecreasingBy (λ child. child.offset) order
  pub stable : IsStableByKey (λ child. child.offset) nat_cmp children order
