-- What the children of an element weigh together, by what those of its base weigh.
use Rattle.std.specs.Prelude.{◌≡◌, ℕ, ◌+◌, List, Option, Some, None, slice_get, get_or, sum_by, Vec}
use Rattle.need_order.specs.declared.element.Element.{Element}
use Rattle.need_order.specs.Children.{items_at}

-- the weight of an element, 0 where none is told
abbrev pub weigh : List ℕ → ℕ → ℕ
weigh weights d = get_or weights d 0

-- what the children of a base weigh; nothing where there is no base
abbrev pub base_sum : List ℕ → Option ℕ → ℕ
base_sum sums None = 0
base_sum sums (Some base) = get_or sums base 0

abbrev pub begun_sum_in : List ℕ → List ℕ → Option Element → ℕ
begun_sum_in weights sums None = 0
begun_sum_in weights sums (Some element) = base_sum sums element.base + sum_by (weigh weights) element.parts.items

-- what the children of the base of an element and its own parts weigh
unfoldable pub begun_sum : List Element → List ℕ → List ℕ → ℕ → ℕ
begun_sum elements weights sums e = begun_sum_in weights sums (slice_get elements e)

-- with what is dropped it is what the element begins with
abbrev pub IsSumAt : {Z : Type 0} → List Element → List (Vec ℕ Z) → List ℕ → List ℕ → ℕ → ℕ → Type 0
IsSumAt elements dropped weights sums e sum = sum + sum_by (weigh weights) (items_at dropped e) ≡ begun_sum elements weights sums e
