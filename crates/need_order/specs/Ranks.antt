-- Ranks of elements, which spare searches for circles where they fall along needs.
use Rattle.std.specs.Prelude.{◌≡◌, ℕ, ◌+◌, Bool, false, nat_le, List, get_or}
use Rattle.std.specs.List.{list_any}

-- the rank of an element, 0 where it has none
abbrev pub rank_of : List ℕ → ℕ → ℕ
rank_of ranks e = get_or ranks e 0

-- one of these is of this rank or above it
abbrev pub rises_to : List ℕ → ℕ → List ℕ → Bool
rises_to ranks rank needs = list_any (λ d. nat_le rank (rank_of ranks d)) needs

-- no element needs one of a rank above its own
abbrev pub IsFalling : (ℕ → List ℕ) → List ℕ → Type 0
IsFalling needs ranks = (e : ℕ) → rises_to ranks (rank_of ranks e + 1) (needs e) ≡ false
