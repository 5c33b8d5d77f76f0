-- The elements below an element, as first child and next sibling: what a description's tree is, whatever
-- its steps and keys are.
use Rattle.std.specs.Prelude.{List, [], ◌∷◌}

-- no element; or an element with its step and its keys, the elements below it, and its later siblings
pub data Forest (S K : Type 0) : Type 0 where
  leaf : Forest S K
  node : (step : S) (keys : List K) (children siblings : Forest S K) → Forest S K

-- an element without its step: its keys, and the elements below it
pub record Tree (S K : Type 0) : Type 0 where
  pub keys : List K
  pub below : Forest S K

-- the elements of the first, then those of the second, all siblings
unfoldable pub join : {S K : Type 0} → Forest S K → Forest S K → Forest S K
join leaf g = g
join (node step keys children others) g = node step keys children (join others g)

-- the elements of a list, each under its step, all siblings
unfoldable pub siblings : {S K : Type 0} → List (S × Tree S K) → Forest S K
siblings [] = leaf
siblings (element ∷ others) = node element.0 element.1.keys element.1.below (siblings others)

-- the steps of the siblings, in their order
unfoldable pub steps : {S K : Type 0} → Forest S K → List S
steps leaf = []
steps (node step keys children others) = step ∷ steps others
