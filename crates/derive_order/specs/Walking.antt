-- A walk over all elements, down from those without a base to what begins as them, and up again: what it has still to do.
use Rattle.std.specs.Prelude.{◌≡◌, ◌⊎◌, ◌↔◌, ℕ, ◌+◌, ◌*◌, ◌<◌, ◌≤◌, Bool, true, false, not, filter, List, [], ◌∷◌, length, get_or, unwrap_or, Option, None, Some, Vec, ⊤}
use Rattle.std.specs.List.{list_any}
use Rattle.derive_order.specs.declared.gone.Walk.{Walk}
use Rattle.derive_order.specs.Gone.{base_at}
use Rattle.derive_sources.specs.Numbers.{is_number}
use Rattle.need_order.specs.declared.element.Element.{Element}
use Rattle.need_order.specs.Children.{items_at}
use Rattle.need_order.specs.Needs.{among, needs, IsOrder}

-- the elements have an order behind what each needs
abbrev pub HasOrder : List Element → Type 0
HasOrder elements = (order : List ℕ) × IsOrder (needs elements) (length elements) order

-- the walk is at this element, or at none, and these were met
abbrev pub IsAt : Walk → Option ℕ → List Bool → Type 0
IsAt walk current done = (walk.current ≡ current) × (walk.done.items ≡ done)

-- each base is an element
abbrev pub HasBasesWithin : List Element → Type 0
HasBasesWithin elements = (d base : ℕ) → base_at elements d ≡ Some base → base < length elements

-- under the number of an element stand those of the first n that have it as base, under the number of all those without one
pub record StandByBases {Z : Type 0} (elements : List Element) (n : ℕ) (lists : List (Vec ℕ Z)) : Type 0 where
  pub long : length lists ≡ length elements + 1
  pub those : (k d : ℕ) → k ≤ length elements → (among d (items_at lists k) ≡ true) ↔ ((d < n) × (unwrap_or (base_at elements d) (length elements) ≡ k))
  pub short : (k : ℕ) → k ≤ length elements → length (items_at lists k) ≤ n

-- a step down to this element is still to be made
abbrev pub is_next : ℕ → List (Option ℕ) → Bool
is_next e steps = list_any (is_number e) steps

-- the steps can be made one after the other
unfoldable pub Fits : List Element → Option ℕ → List (Option ℕ) → Type 0
Fits elements current [] = ⊤
Fits elements current (Some e ∷ steps) = (base_at elements e ≡ current) × (e < length elements) × Fits elements current steps
Fits elements current (None ∷ steps) = (e : ℕ) × (current ≡ Some e) × Fits elements (base_at elements e) steps

-- the base, if there is one, was met
abbrev pub IsReached : List Bool → Option ℕ → Type 0
IsReached done None = ⊤
IsReached done (Some base) = get_or done base false ≡ true

-- the walk can go on, and each element whose base was met was met too, or is still to be met
pub record Goes (elements : List Element) (done : List Bool) (current : Option ℕ) (steps : List (Option ℕ)) : Type 0 where
  pub fits : Fits elements current steps
  pub met : (e : ℕ) → e < length elements → IsReached done (base_at elements e) → (get_or done e false ≡ true) ⊎ (is_next e steps ≡ true)

-- how much is still to be done, at most
abbrev pub left_of : List Element → Walk → List (Option ℕ) → ℕ
left_of elements walk steps = length (filter not walk.done.items) * (length elements + 2) + length steps
