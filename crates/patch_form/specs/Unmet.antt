-- Which of the demands that are not met is the first.
use Rattle.std.specs.Prelude.{◌≡◌, ℕ, Bool, false, ◌&&◌, ◌||◌, ◌==◌, nat_lt, List, [], ◌∷◌, ◌⊎◌}
use Rattle.patch_form.specs.declared.fault.FaultKind.{FaultKind}
use Rattle.patch_form.specs.declared.fault.FaultKind.TheVariants.{UnknownCommand, UnknownKey, BadValue, BadPattern}
use Rattle.patch_form.specs.Demands.{Demand, IsMet}

-- the order in which faults of one line are sought
abbrev pub rank : FaultKind → ℕ
rank UnknownCommand = 0
rank UnknownKey = 1
rank BadValue = 2
rank BadPattern = 3

abbrev pub is_before : ℕ → FaultKind → ℕ → FaultKind → Bool
is_before line kind other another = nat_lt line other || ((line == other) && nat_lt (rank kind) (rank another))

-- a fact of each demand, and of some demand
abbrev pub Each : (Demand → Type 0) → List Demand → Type 0
Each P [] = Unit {0}
Each P (demand ∷ demands) = P demand × Each P demands

abbrev pub SomeOne : (Demand → Type 0) → List Demand → Type 0
SomeOne P [] = ⊥
SomeOne P (demand ∷ demands) = P demand ⊎ SomeOne P demands

abbrev pub AllMet : List Demand → Type 0
AllMet demands = Each (λ demand. IsMet demand.wanted) demands

-- a demand of this line and kind isn't met, and none before it
pub record IsFirstUnmet (demands : List Demand) (line : ℕ) (kind : FaultKind) : Type 0 where
  pub unmet : SomeOne (λ demand. (demand.line ≡ line) × (demand.kind ≡ kind) × (¬ (IsMet demand.wanted))) demands
  pub first : Each (λ demand. ¬ (IsMet demand.wanted) → is_before demand.line demand.kind line kind ≡ false) demands
