-- Tallies of written names, from which the numbers come that tell siblings of one name apart; and lists of siblings
-- that grow at their end.
use Rattle.std.specs.Prelude.{◌≡◌, ℕ, ◌+◌, ◌^◌, ◌<◌, List, ◌++◌, length, map, unwrap_or}
use Rattle.std.specs.List.{AllByRecursion}
use Rattle.std.specs.Map.{lookup}
use Rattle.std.specs.Str.{bytes_eq}
use Rattle.dim_expand.specs.Unfolding.{count_behind}
use Rattle.dim_expand.specs.Walks.{numbered_list}
use Rattle.svd_model.specs.Keys.{Key}
use Rattle.svd_model.specs.Steps.{Step}
use Rattle.svd_rows.specs.Forest.{Tree}

-- the entries have the count of each of these names
abbrev pub Tallies : List (List ℕ) → List (List ℕ × ℕ) → Type 0
Tallies before entries = (name : List ℕ) → unwrap_or (lookup (bytes_eq name) entries) 0 ≡ count_behind before name

-- the written names of siblings
abbrev pub names_of : List (Step × Tree Step Key) → List (List ℕ)
names_of made = map (λ x. x.0.name) made

-- the tally is that of these siblings, and the number of each is below the count of its name
pub record Sound (tally : List (List ℕ × ℕ)) (made : List (Step × Tree Step Key)) : Type 0 where
  pub counted : Tallies (names_of made) tally
  pub below : AllByRecursion (λ x. x.0.number < count_behind (names_of made) x.0.name) made

-- these siblings went behind the ones that stood there, each with its number
pub record Grew (tally : List (List ℕ × ℕ)) (old xs new : List (Step × Tree Step Key)) : Type 0 where
  pub sound : Sound tally new
  pub grown : new ≡ old ++ numbered_list (names_of old) xs

-- with those that follow the siblings are so few that their numbers have 32 bits
abbrev pub Fit : List (Step × Tree Step Key) → List (Step × Tree Step Key) → Type 0
Fit old xs = length old + length xs < 2 ^ 32

-- so do they where the tally was sound, and the siblings fit
abbrev pub Pushes : List (List ℕ × ℕ) → List (Step × Tree Step Key) → List (Step × Tree Step Key) → List (List ℕ × ℕ) → List (Step × Tree Step Key) → Type 0
Pushes tally old xs tally_after new = Fit old xs → Sound tally old → Grew tally_after old xs new
