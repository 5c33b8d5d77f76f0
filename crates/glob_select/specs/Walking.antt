-- How a name is matched without going back: item by item up to the next star, from the first place that serves.
use Rattle.std.specs.Prelude.{ℕ, List, [], ◌∷◌, Option, Some, None, option_and_then, if◌then◌else◌}
use Rattle.std.specs.Option.{option_or}
use Rattle.glob_select.specs.Items.{Item}
use Rattle.glob_select.specs.Matching.{is_star, taken}

-- what is left of items and name at the next star or at the end of the items
unfoldable pub walk : List Item → List ℕ → Option (List Item × List ℕ)
walk [] name = Some ([], name)
walk (item ∷ items) name = if is_star item then Some (item ∷ items, name) else option_and_then (walk items) (taken item name)

-- a walk that came to a star, or to the ends of both
abbrev pub ends_well : List Item → List ℕ → Option (List Item × List ℕ)
ends_well [] [] = Some ([], [])
ends_well [] (byte ∷ rest) = None
ends_well (item ∷ items) rest = Some (item ∷ items, rest)

abbrev pub kept : Option (List Item × List ℕ) → Option (List Item × List ℕ)
kept None = None
kept (Some p) = ends_well p.0 p.1

-- the walk from the first place of the name from which one ends well
unfoldable pub first_walk : List Item → List ℕ → Option (List Item × List ℕ)
first_walk items [] = kept (walk items [])
first_walk items (byte ∷ name) = option_or (kept (walk items (byte ∷ name))) (first_walk items name)
