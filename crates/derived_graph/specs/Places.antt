-- Keys that an element takes, place by place: there is one place for each rank.
use Rattle.std.specs.Prelude.{◌≡◌, Bool, cond, List, [], ◌∷◌, length, Option, None, Some}
use Rattle.derived_rows.specs.Merging.{stays_behind, taken}
use Rattle.svd_model.specs.Keys.{Key, rank}
use Rattle.svd_rows.specs.Ranks.{stated, IsPlaced}

-- a key of an element, where these are its own and its source's
abbrev pub picked : Bool → Option Key → Option Key → Option Key
picked marked (Some own) source = Some own
picked marked None None = None
picked marked None (Some source) = cond (stays_behind marked source) None (Some source)

-- all its keys
unfoldable pub picked_all : Bool → List (Option Key) → List (Option Key) → List (Option Key)
picked_all marked [] source = []
picked_all marked (own ∷ places) [] = own ∷ places
picked_all marked (own ∷ places) (source ∷ others) = picked marked own source ∷ picked_all marked places others

-- an element takes keys by taking what stands in each place
abbrev pub TakesByPlaces : Type 0
TakesByPlaces =
    (marked : Bool) (own source : List (Option Key)) → IsPlaced rank 0 own → IsPlaced rank 0 source → length own ≡ length source → stated (picked_all marked own source) ≡ taken marked (stated own) (stated source)
