-- What the search finds of a member among those before it, and at its end.
use Rattle.std.specs.Prelude.{◌≡◌, ℕ, Bool, false, List, [], ◌∷◌, length, map, take, Option, None, Some, option_map, slice_get}
use Rattle.pac_base.specs.declared.path.Step.{Step as Written}
use Rattle.overlap_sweep.specs.declared.overlap.Overlap.{Overlap}
use Rattle.overlap_sweep.specs.declared.search.Meeting.{Meeting}
use Rattle.overlap_sweep.specs.declared.search.Sought.{Sought}
use Rattle.overlap_sweep.specs.declared.search.Sought.TheVariants.{Met, Free}
use Rattle.overlap_sweep.specs.declared.spot.Spot.{Spot}
use Rattle.overlap_sweep.specs.declared.spot.Way.{Way}
use Rattle.overlap_sweep.specs.Overlaps.{or_else, told_in}
use Rattle.overlap_sweep.specs.Search.{block_of, first_against, kept_in}
use Rattle.overlap_sweep.specs.Spots.{meets, told_way}

-- a member meets the other where there is one
abbrev pub meets_it : Option Spot → Spot → Bool
meets_it None other = false
meets_it (Some spot) other = meets spot other

abbrev pub meets_at : List Spot → ℕ → Spot → Bool
meets_at spots place other = meets_it (slice_get spots place) other

-- what is found of the member at this place: the first of those before it that it meets, or where it is to be kept
unfoldable pub IsSought : List Spot → ℕ → Spot → Sought → Type 0
IsSought spots place spot (Met first) = (earlier : Spot) × (slice_get spots first ≡ Some earlier) × (first_against meets spot (take place spots) ≡ Some earlier)
IsSought spots place spot (Free rank) = (first_against meets spot (take place spots) ≡ None) × (rank ≡ length (kept_in (block_of spot) (take place spots)))

-- the places of a pair, or of none
unfoldable pub IsMeeting : List Spot → Option (Spot × Spot) → Option Meeting → Type 0
IsMeeting spots pair None = pair ≡ None
IsMeeting spots pair (Some meeting) = (first second : Spot) × (slice_get spots meeting.first ≡ Some first) × (slice_get spots meeting.second ≡ Some second) × (pair ≡ Some (first, second))

-- the way to the member at a place, as it is told
abbrev pub told_it : Option Spot → List Written
told_it None = []
told_it (Some spot) = told_way spot.way

abbrev pub told_at : List Spot → ℕ → List Written
told_at spots place = told_it (slice_get spots place)

-- the way as it is told without indexes
abbrev pub plain_way : List Way → List Written
plain_way way = map (λ step. record { name = step.name; index = None }) way

-- the first two members of fields of one register that share a bit and may not, as they are told
unfoldable pub shared_in : List Spot → Option Overlap
shared_in [] = None
shared_in (spot ∷ spots) = or_else (option_map (told_in (plain_way spot.way)) spot.shared) (shared_in spots)

-- the two as they are told
abbrev pub told_pair : Spot × Spot → Overlap
told_pair pair = record { first = told_way pair.0.way; second = told_way pair.1.way }
