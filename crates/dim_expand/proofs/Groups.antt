-- The groups of an element, one place after the other.
use Rattle.std.proofs.Common.{◌≡◌, ℕ, zero, suc, ◌+◌, true, cond, ◌&&◌, List, [], ◌∷◌, ◌++◌, map, Option, None, Some, unwrap_or, refl, sym, ap, ap₂, ◌∙◌, arith, append-nil, add-one}
use Rattle.std.specs.List.{range_with_len}
use Rattle.std.proofs.lemmas.List.{map-append}
use Rattle.dim_expand.specs.Groups.{HasDim}
use Rattle.dim_expand.specs.Marks.{has_dimension, may_be_array, is_list, is_list_name}
use Rattle.dim_expand.specs.Unfolding.{groups_of}
use Rattle.dim_expand.specs.Walks.{Grouping, group_at, groups_at, list_count, unfolded, unfolded_list}
use Rattle.svd_model.specs.declared.device.Dim.{Dim}
use Rattle.svd_model.specs.Keys.{Key}
use Rattle.svd_model.specs.Stating.{indexes_of}
use Rattle.svd_model.specs.Steps.{Step}
use Rattle.svd_rows.specs.Forest.{Tree, siblings}
use Rattle.svd_rows.proofs.Lists.{map_agree}

-- the groups before this place
abbrev pub groups_up_to : Option ℕ → ℕ → List (Option ℕ)
groups_up_to count place = map (group_at count) (range_with_len 0 place)

range-behind : (a n : ℕ) → range_with_len a (n + 1) ≡ range_with_len a n ++ (a + n) ∷ []
range-behind a n = rw (add-one) (by a n)
  where
    by : (a n : ℕ) → range_with_len a (suc n) ≡ range_with_len a n ++ (a + n) ∷ []
    by a zero = ap (λ m. m ∷ []) (omega arith)
    by a (suc n) = ap (λ r. a ∷ r) (by (a + 1) n ∙ ap (λ m. range_with_len (a + 1) n ++ m ∷ []) (omega arith))

pub groups-more : (count : Option ℕ) (place : ℕ) → groups_up_to count (place + 1) ≡ groups_up_to count place ++ group_at count place ∷ []
groups-more count place =
    ap (map (group_at count)) (range-behind 0 place ∙ ap (λ m. range_with_len 0 place ++ m ∷ []) (omega arith))
    ∙ map-append (group_at count) (range_with_len 0 place) (place ∷ [])

all_groups : (count : Option ℕ) → groups_up_to count (unwrap_or count 1) ≡ indexes_of count
all_groups None = refl
all_groups (Some n) = map_agree (group_at (Some n)) Some (λ k. refl) (range_with_len 0 n)

groups-say : (step : Step) (keys : List Key) (dim : Dim) → has_dimension step.kind ≡ true → HasDim keys dim → indexes_of (list_count (may_be_array step.kind) step.name dim.count) ≡ groups_of step keys
unfolding groups_of is_list
groups-say step keys dim may says =
    sym (ap₂ (λ b c. indexes_of (cond (b && is_list_name (may_be_array step.kind) step.name) (Some (unwrap_or c 0)) None)) may says.count)

-- all groups of an element are what it comes to
pub groups-whole : (grouping : Grouping) (x : Step × Tree Step Key) (dim : Dim) (count : Option ℕ) → has_dimension x.0.kind ≡ true → HasDim x.1.keys dim → count ≡ list_count (may_be_array x.0.kind) x.0.name dim.count → groups_at grouping x (groups_up_to count (unwrap_or count 1)) ≡ unfolded_list grouping (siblings (x ∷ []))
unfolding unfolded unfolded_list siblings
groups-whole grouping x dim count may says is =
    ap (groups_at grouping x) (all_groups count ∙ ap indexes_of is ∙ groups-say x.0 x.1.keys dim may says)
    ∙ sym (append-nil (groups_at grouping x (groups_of x.0 x.1.keys)))
