-- Keys in one canonical order: each key has a rank, and the keys of an element stand by rising rank.
use Rattle.std.specs.Prelude.{◌≡◌, ℕ, ◌<◌, ◌+◌, cond, nat_lt, nat_eq, List, [], ◌∷◌, Option, None, Some, ⊤}
use Rattle.std.specs.List.{AllByRecursion}

-- the ranks rise
unfoldable pub IsRanked : {K : Type 0} → (K → ℕ) → List K → Type 0
IsRanked rank [] = ⊤
IsRanked rank (key ∷ keys) = AllByRecursion (λ later. rank key < rank later) keys × IsRanked rank keys

-- the keys with this one in its place by rank, instead of the one of its rank where there is one
unfoldable pub set_key : {K : Type 0} → (K → ℕ) → K → List K → List K
set_key rank key [] = key ∷ []
set_key rank key (first ∷ keys) =
    cond (nat_lt (rank first) (rank key)) (first ∷ set_key rank key keys)
    (cond (nat_eq (rank first) (rank key)) (key ∷ keys) (key ∷ first ∷ keys))

-- the keys that stand in a row of places, one place for each rank from the first rank on
unfoldable pub stated : {K : Type 0} → List (Option K) → List K
stated [] = []
stated (None ∷ places) = stated places
stated (Some key ∷ places) = key ∷ stated places

-- each key stands in the place of its rank, where the first place is that of this rank
unfoldable pub IsPlaced : {K : Type 0} → (K → ℕ) → ℕ → List (Option K) → Type 0
IsPlaced rank first [] = ⊤
IsPlaced rank first (None ∷ places) = IsPlaced rank (first + 1) places
IsPlaced rank first (Some key ∷ places) = (rank key ≡ first) × IsPlaced rank (first + 1) places
