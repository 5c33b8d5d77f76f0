-- Elements with what each needs: its source and its children.
use Rattle.std.specs.Prelude.{◌≡◌, ℕ, ◌+◌, ◌<◌, ◌&&◌, cond, nat_lt, List, [], ◌∷◌, ◌++◌, map, length, Option, None, Some, slice_get}
use Rattle.derive_sources.specs.Numbers.{Item, is_number}
use Rattle.need_order.specs.declared.element.Element.{Element}

abbrev pub parts_in : Option Element → List ℕ
parts_in None = []
parts_in (Some element) = element.parts.items

-- the parts of the element of a number
unfoldable pub parts_at : List Element → ℕ → List ℕ
parts_at elements e = parts_in (slice_get elements e)

-- the element of this number, if there is one, has one part more
abbrev pub AddsPart : List Element → List Element → Option ℕ → ℕ → Type 0
AddsPart old new parent number =
    (e : ℕ) → parts_at new e ≡ cond (is_number e parent && nat_lt e (length old)) (parts_at old e ++ number ∷ []) (parts_at old e)

-- the numbers, from this one on, of the items whose parent has a number
unfoldable pub children_among : ℕ → ℕ → List Item → List ℕ
children_among parent n [] = []
children_among parent n (item ∷ items) = cond (is_number parent item.parent) (n ∷ children_among parent (n + 1) items) (children_among parent (n + 1) items)

-- each element has its source as base, and its children as parts
pub record IsGraph (items : List Item) (sources : List (Option ℕ)) (elements : List Element) : Type 0 where
  pub bases : map (λ element. element.base) elements ≡ sources
  pub parts : (e : ℕ) → e < length elements → parts_at elements e ≡ children_among e 0 items
