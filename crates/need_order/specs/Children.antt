-- What stands below elements: the children of an element are those of its base and its own parts, but for those that it drops.
use Rattle.std.specs.Prelude.{◌≡◌, ℕ, zero, suc, ◌+◌, ◌-◌, ◌^◌, ◌<◌, min, Bool, true, false, List, [], ◌++◌, Option, Some, None, slice_get, get_or, sum_by, Vec}
use Rattle.std.specs.List.{list_any}
use Rattle.std.specs.List.Sorted.{IsPermutation}
use Rattle.need_order.specs.declared.element.Element.{Element}
use Rattle.need_order.specs.Levels.{by_levels}

abbrev pub items_in : {Z : Type 0} → Option (Vec ℕ Z) → List ℕ
items_in None = []
items_in (Some numbers) = numbers.items

-- the numbers of a list in a table; none where there is no list
unfoldable pub items_at : {Z : Type 0} → List (Vec ℕ Z) → ℕ → List ℕ
items_at table e = items_in (slice_get table e)

abbrev pub of_base : (ℕ → List ℕ) → Option ℕ → List ℕ
of_base children None = []
of_base children (Some base) = children base

abbrev pub begun_in : (ℕ → List ℕ) → Option Element → List ℕ
begun_in children None = []
begun_in children (Some element) = of_base children element.base ++ element.parts.items

-- the children of the base of an element, and its own parts
unfoldable pub begun : List Element → (ℕ → List ℕ) → ℕ → List ℕ
begun elements children e = begun_in children (slice_get elements e)

-- the children of each element and those that it drops are, in some order, the children of its base and its own parts
abbrev pub AreChildren : {Z : Type 0} → List Element → List (Vec ℕ Z) → (ℕ → List ℕ) → Type 0
AreChildren elements dropped children = (e : ℕ) → IsPermutation (begun elements children e) (children e ++ items_at dropped e)

-- counts stay at 2^64 - 1
abbrev pub told : ℕ → ℕ
told count = min count (2 ^ 64 - 1)

-- 1 for a flag that is set
abbrev pub flag_weight : Bool → ℕ
flag_weight true = 1
flag_weight false = 0

abbrev pub size_made : List Bool → (ℕ → List ℕ) → (ℕ → ℕ) → ℕ → ℕ
size_made flags children below e = flag_weight (get_or flags e false) + sum_by below (children e)

-- how many elements whose flags are set stand at an element and so many levels down
abbrev pub size : List Bool → (ℕ → List ℕ) → ℕ → ℕ → ℕ
size flags children = by_levels (size_made flags children) 0

-- as many elements as these stand one below the other below an element
unfoldable pub is_deep : (ℕ → List ℕ) → ℕ → ℕ → Bool
is_deep children zero e = true
is_deep children (suc levels) e = list_any (is_deep children levels) (children e)

-- of each of the first n elements it is told how many whose flags are set stand there, itself and what is below it
abbrev pub Counts : List Bool → (ℕ → List ℕ) → ℕ → List ℕ → Type 0
Counts flags children n counts = (e : ℕ) → e < n → slice_get counts e ≡ Some (told (size flags children n e))

-- of each of the first n elements it is told whether so many stand below it one below the other
abbrev pub Flags : (ℕ → List ℕ) → ℕ → ℕ → List Bool → Type 0
Flags children n levels flags = (e : ℕ) → e < n → slice_get flags e ≡ Some (is_deep children levels e)

-- of each of the first n elements it is told whether one of its children has its flag set
abbrev pub Deepens : (ℕ → List ℕ) → ℕ → List Bool → List Bool → Type 0
Deepens children n flags next = (e : ℕ) → e < n → slice_get next e ≡ Some (list_any (λ d. get_or flags d false) (children e))
