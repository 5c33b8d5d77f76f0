-- Elements by their numbers, and what each needs: its base and its parts. Paths of needs, circles, and orders.
use Rattle.std.specs.Prelude.{◌≡◌, ◌↔◌, ℕ, ◌<◌, Bool, true, false, nat_eq, List, [], ◌∷◌, ◌++◌, Option, Some, None, is_some, slice_get, length, Result, Ok, Err, ⊤}
use Rattle.std.specs.List.{list_any, IsDistinct}
use Rattle.need_order.specs.declared.element.Element.{Element}
use Rattle.need_order.specs.declared.fault.NeedFault.{NeedFault}
use Rattle.need_order.specs.declared.fault.NeedFault.TheVariants.{Circle, Memory}

-- the number is one of these
abbrev pub among : ℕ → List ℕ → Bool
among d numbers = list_any (nat_eq d) numbers

abbrev pub with_base : Option ℕ → List ℕ → List ℕ
with_base None parts = parts
with_base (Some base) parts = base ∷ parts

-- what an element needs
abbrev pub needs_of : Element → List ℕ
needs_of element = with_base element.base element.parts.items

abbrev pub needs_in : Option Element → List ℕ
needs_in None = []
needs_in (Some element) = needs_of element

-- what the element of a number needs; nothing where there is none
unfoldable pub needs : List Element → ℕ → List ℕ
needs elements e = needs_in (slice_get elements e)

-- each need is one of the first n numbers
abbrev pub IsWithin : (ℕ → List ℕ) → ℕ → Type 0
IsWithin needs n = (e d : ℕ) → among d (needs e) ≡ true → d < n

-- a path of needs: the first needs the first of these, each of them the next, and the last of them the other end
unfoldable pub IsPath : (ℕ → List ℕ) → ℕ → List ℕ → ℕ → Type 0
IsPath needs from [] to = among to (needs from) ≡ true
IsPath needs from (over ∷ path) to = (among over (needs from) ≡ true) × IsPath needs over path to

-- some path of needs leads from one to the other
abbrev pub Leads : (ℕ → List ℕ) → ℕ → ℕ → Type 0
Leads needs from to = (path : List ℕ) × IsPath needs from path to

-- no path of needs returns to where it began
abbrev pub HasNoCircle : (ℕ → List ℕ) → Type 0
HasNoCircle needs = (e : ℕ) → Leads needs e e → ⊥

-- one of the first n elements lies on a circle: a path of needs returns to it
pub record HasCircle (needs : ℕ → List ℕ) (n : ℕ) : Type 0 where
  pub on : ℕ
  pub inside : on < n
  pub circle : Leads needs on on

-- the first n numbers in an order, each once and behind all that it needs
pub record IsOrder (needs : ℕ → List ℕ) (n : ℕ) (order : List ℕ) : Type 0 where
  pub whole : (e : ℕ) → (among e order ≡ true) ↔ (e < n)
  pub once : IsDistinct nat_eq order
  pub behind : (before after : List ℕ) (e d : ℕ) → order ≡ before ++ (e ∷ after) → among d (needs e) ≡ true → among d before ≡ true

abbrev pub is_based_in : Option Element → Bool
is_based_in None = false
is_based_in (Some element) = is_some element.base

-- the element of a number has a base
abbrev pub is_based : List Element → ℕ → Bool
is_based elements e = is_based_in (slice_get elements e)

-- an element with a base on a circle
abbrev pub IsBasedOnCircle : List Element → ℕ → Type 0
IsBasedOnCircle elements e = (is_based elements e ≡ true) × Leads (needs elements) e e

-- none of the first n elements is one
abbrev pub HasNoneBelow : List Element → ℕ → Type 0
HasNoneBelow elements n = (e : ℕ) → e < n → IsBasedOnCircle elements e → ⊥

-- the first element with a base on a circle, or that there is none
abbrev pub IsFirstOnCircle : List Element → Option ℕ → Type 0
IsFirstOnCircle elements (Some e) = IsBasedOnCircle elements e × HasNoneBelow elements e
IsFirstOnCircle elements None = HasNoneBelow elements (length elements)

-- what a fault says
abbrev pub IsFaultOf : List Element → NeedFault → Type 0
IsFaultOf elements (Circle first) = HasCircle (needs elements) (length elements) × IsFirstOnCircle elements first
IsFaultOf elements Memory = ⊤

-- where there is no order: a circle stands, and the first element with a base on one is told
abbrev pub OnNoOrder : {T : Type 0} → Result T NeedFault → List Element → Type 0
OnNoOrder (Ok order) elements = ⊤
OnNoOrder (Err fault) elements = IsFaultOf elements fault
