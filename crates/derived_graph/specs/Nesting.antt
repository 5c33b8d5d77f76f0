-- Which elements stand below which (CMSIS-SVD 1.3), and that sets and values are numbered by their places.
use Rattle.std.specs.Prelude.{◌≡◌, ℕ, ◌+◌, Bool, true, false, List, [], ◌∷◌, Option, None, Some, ⊤}
use Rattle.svd_model.specs.Keys.{Key}
use Rattle.svd_model.specs.Steps.{Step, Kind, peripheral, cluster, register, field, set, value}
use Rattle.svd_rows.specs.Forest.{Forest, leaf, node, steps}

-- an element of this kind may stand below one of that kind; peripherals stand below the device, which has none
abbrev pub is_child : Option Kind → Kind → Bool
is_child None peripheral = true
is_child (Some peripheral) cluster = true
is_child (Some peripheral) register = true
is_child (Some cluster) cluster = true
is_child (Some cluster) register = true
is_child (Some register) field = true
is_child (Some field) set = true
is_child (Some set) value = true
is_child _ _ = false

-- siblings have the numbers of their places, from this one on
unfoldable pub ArePlaced : ℕ → List Step → Type 0
ArePlaced n [] = ⊤
ArePlaced n (step ∷ steps) = (step.number ≡ n) × ArePlaced (n + 1) steps

-- those below fields and sets have
abbrev pub PlacedIn : Option Kind → List Step → Type 0
PlacedIn (Some field) steps = ArePlaced 0 steps
PlacedIn (Some set) steps = ArePlaced 0 steps
PlacedIn kind steps = ⊤

-- each of these siblings, and of those below them, may stand where it stands
unfoldable pub IsNested : Option Kind → Forest Step Key → Type 0
IsNested kind leaf = ⊤
IsNested kind (node step keys children siblings) =
    (is_child kind step.kind ≡ true) × PlacedIn (Some step.kind) (steps children) × IsNested (Some step.kind) children × IsNested kind siblings
