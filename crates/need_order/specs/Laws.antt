-- What orders and circles of needs mean for one another, and for values by levels.
use Rattle.std.specs.Prelude.{◌≡◌, ℕ, ◌+◌, ◌<◌, ◌≤◌, true, false, List, length}
use Rattle.need_order.specs.declared.element.Element.{Element}
use Rattle.need_order.specs.Children.{is_deep}
use Rattle.need_order.specs.Levels.{by_levels, IsMadeOfNeeds}
use Rattle.need_order.specs.Needs.{among, needs, is_based, IsWithin, HasCircle, HasNoCircle, IsOrder, HasNoneBelow}

-- where an order stands no path of needs returns
abbrev pub OrderedHasNoCircle : Type 0
OrderedHasNoCircle = (needs : ℕ → List ℕ) (n : ℕ) (order : List ℕ) → IsWithin needs n → IsOrder needs n order → HasNoCircle needs

-- elements without a base need later ones alone, as where parts stand behind what they are parts of
abbrev pub NeedsLater : List Element → Type 0
NeedsLater elements = (e d : ℕ) → is_based elements e ≡ false → among d (needs elements e) ≡ true → e < d

-- then an element with a base lies on a circle, where there is one
abbrev pub CircleHasBase : Type 0
CircleHasBase = (elements : List Element) → IsWithin (needs elements) (length elements) → NeedsLater elements → HasCircle (needs elements) (length elements) → HasNoneBelow elements (length elements) → ⊥

-- Where an order of n elements stands, n levels are never used up: from there on a value is made of values of as many levels.
abbrev pub LevelsSuffice : Type 0 → Type 0 → Type 0
LevelsSuffice P X =
    (at : ℕ → P) (needs : ℕ → List ℕ) (n : ℕ) (order : List ℕ) (make : (P → X) → P → X) (none : X)
    → IsMadeOfNeeds at needs make → IsOrder needs n order
    → (levels e : ℕ) → n ≤ levels → e < n → by_levels make none levels (at e) ≡ make (by_levels make none levels) (at e)

-- An element with fewer levels below it than there are comes to the same with more of them.
abbrev pub DepthSuffices : Type 0 → Type 0
DepthSuffices X =
    (children : ℕ → List ℕ) (make : (ℕ → X) → ℕ → X) (none : X)
    → IsMadeOfNeeds (λ e. e) children make
    → (levels e more : ℕ) → is_deep children levels e ≡ false → by_levels make none (levels + more) e ≡ by_levels make none levels e
