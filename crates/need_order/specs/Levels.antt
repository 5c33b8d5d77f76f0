-- Values by levels: at none left there is no value.
use Rattle.std.specs.Prelude.{◌≡◌, ℕ, zero, suc, true, List}
use Rattle.need_order.specs.Needs.{among}

-- a value so many levels down, each made of the values one level further down
unfoldable pub by_levels : {P X : Type 0} → ((P → X) → P → X) → X → ℕ → P → X
by_levels make none zero place = none
by_levels make none (suc levels) place = make (by_levels make none levels) place

-- the value at the place of an element is made of the values at the places of what it needs
abbrev pub IsMadeOfNeeds : {P X : Type 0} → (ℕ → P) → (ℕ → List ℕ) → ((P → X) → P → X) → Type 0
IsMadeOfNeeds {P} {X} at needs make = (f g : P → X) (e : ℕ) → ((d : ℕ) → among d (needs e) ≡ true → f (at d) ≡ g (at d)) → make f (at e) ≡ make g (at e)
