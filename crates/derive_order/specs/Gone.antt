-- Which children of its base an element has no more, by keys: a child is replaced where an own one has its key. What is
-- told is told for one element after the other, on a walk down from the elements without a base and up again.
use Rattle.std.specs.Prelude.{◌≡◌, ℕ, ◌<◌, Bool, true, false, not, cond, nat_eq, List, [], ◌∷◌, ◌++◌, filter, length, get_or, Option, None, Some, slice_get, Vec}
use Rattle.std.specs.List.{list_any}
use Rattle.std.specs.List.Sorted.{IsPermutation}
use Rattle.derive_order.specs.declared.gone.Walk.{Walk}
use Rattle.derive_sources.specs.Graphs.{parts_at}
use Rattle.need_order.specs.declared.element.Element.{Element}
use Rattle.need_order.specs.Children.{items_at, of_base}

-- the key of an element, 0 where it has none
abbrev pub key_of : List ℕ → ℕ → ℕ
key_of keys d = get_or keys d 0

-- the element has this key
abbrev pub has_key : List ℕ → ℕ → ℕ → Bool
has_key keys key d = nat_eq key (key_of keys d)

-- one of these has this key
abbrev pub is_key_of : List ℕ → List ℕ → ℕ → Bool
is_key_of keys parts key = list_any (has_key keys key) parts

-- one of these has the key of this element
abbrev pub is_gone : List ℕ → List ℕ → ℕ → Bool
is_gone keys parts d = is_key_of keys parts (key_of keys d)

abbrev pub base_in : Option Element → Option ℕ
base_in None = None
base_in (Some element) = element.base

-- the base of the element of a number
unfoldable pub base_at : List Element → ℕ → Option ℕ
base_at elements e = base_in (slice_get elements e)

-- the children of its base that an element has no more
abbrev pub gone_at : List Element → List ℕ → (ℕ → List ℕ) → ℕ → List ℕ
gone_at elements keys children e = filter (is_gone keys (parts_at elements e)) (of_base children (base_at elements e))

-- the children of each element are, in some order, those of its base but for those that are gone, and its own parts
abbrev pub Replaces : List Element → List ℕ → (ℕ → List ℕ) → Type 0
Replaces elements keys children =
    (e : ℕ) → IsPermutation (children e) (filter (λ d. not (is_gone keys (parts_at elements e) d)) (of_base children (base_at elements e)) ++ parts_at elements e)

-- those that are gone are told for an element
abbrev pub IsTold : {Z : Type 0} → List Element → List ℕ → (ℕ → List ℕ) → List (Vec ℕ Z) → ℕ → Type 0
IsTold elements keys children gone e = IsPermutation (gone_at elements keys children e) (items_at gone e)

-- each key is below a limit
abbrev pub AreBelow : List ℕ → ℕ → Type 0
AreBelow keys limit = (d : ℕ) → key_of keys d < limit

-- the lists without what stands under a key
abbrev pub without : ℕ → (ℕ → List ℕ) → ℕ → List ℕ
without key tops id = cond (nat_eq id key) [] (tops id)

-- what stands under the keys of these, one after the other
unfoldable pub taken_from : List ℕ → (ℕ → List ℕ) → List ℕ → List ℕ
taken_from keys tops [] = []
taken_from keys tops (part ∷ parts) = tops (key_of keys part) ++ taken_from keys (without (key_of keys part) tops) parts

-- the lists without what stands under the keys of these
abbrev pub IsWithout : {Z : Type 0} → List ℕ → List ℕ → List (Vec ℕ Z) → List (Vec ℕ Z) → Type 0
IsWithout keys parts old new = (id : ℕ) → items_at new id ≡ cond (is_key_of keys parts id) [] (items_at old id)

-- the number stands behind the others under a key
abbrev pub IsPushed : {Z : Type 0} → ℕ → ℕ → List (Vec ℕ Z) → List (Vec ℕ Z) → Type 0
IsPushed key number old new = (id : ℕ) → id < length old → items_at new id ≡ cond (nat_eq id key) (items_at old id ++ number ∷ []) (items_at old id)

-- each of these stands behind the others of its key
abbrev pub IsWith : {Z : Type 0} → List ℕ → List ℕ → List (Vec ℕ Z) → List (Vec ℕ Z) → Type 0
IsWith keys numbers old new = (id : ℕ) → id < length old → items_at new id ≡ items_at old id ++ filter (has_key keys id) numbers

-- where a walk is: the children of the element at which it is stand under their keys, and what is gone is told for each
-- element that was met
pub record Stands (elements : List Element) (keys : List ℕ) (children : ℕ → List ℕ) (walk : Walk) : Type 0 where
  pub tops_long : length walk.tops.items ≡ length elements
  pub gone_long : length walk.gone.items ≡ length elements
  pub done_long : length walk.done.items ≡ length elements
  pub tops : (id : ℕ) → id < length elements → IsPermutation (items_at walk.tops.items id) (filter (has_key keys id) (of_base children walk.current))
  pub told : (e : ℕ) → get_or walk.done.items e false ≡ true → IsTold elements keys children walk.gone.items e
  pub met : (e : ℕ) → walk.current ≡ Some e → get_or walk.done.items e false ≡ true
  pub outer : (e base : ℕ) → get_or walk.done.items e false ≡ true → base_at elements e ≡ Some base → get_or walk.done.items base false ≡ true
