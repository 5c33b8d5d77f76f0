-- Where no count passes its limit, siblings are few at each level of what is unfolded: each group counts at least once.
use Rattle.std.proofs.Common.{◌≡◌, ℕ, ◌+◌, ◌*◌, ◌^◌, ◌≤◌, ◌<◌, Bool, true, false, cond, List, [], length, Option, None, Some, unwrap_or, refl, sym, ap, ◌∙◌, arith}
use Rattle.std.proofs.lemmas.List.{length-append, length-map}
use Rattle.std.proofs.lemmas.List.FromFn.{length-map-range_with_len}
use Rattle.std.proofs.lemmas.Nat.{mul-le}
use Rattle.dim_expand.specs.Marks.{has_dimension, is_list, is_marked}
use Rattle.dim_expand.specs.Narrow.{AreFew, NarrowBy, AreNarrow}
use Rattle.dim_expand.specs.Unfolding.{groups_of}
use Rattle.dim_expand.specs.Walks.{capped, group_of, counts, groups, numbered_list, unfolded_list, weight_of, weighed, has_below}
use Rattle.dim_expand.proofs.Element.{IsFine, FreeBy, free-by, list-kind, list-marked}
use Rattle.dim_expand.proofs.Fine.{AreFine}
use Rattle.svd_model.specs.declared.counted.Counted.TheVariants.{Elements}
use Rattle.svd_model.specs.Keys.{Key}
use Rattle.svd_model.specs.Stating.{value_of, stated_dim, indexes_of}
use Rattle.svd_model.specs.Steps.{Step, Kind, peripheral, cluster, register, field, set, value}
use Rattle.svd_rows.specs.Forest.{Forest, leaf, node, siblings}

-- an element has as many groups as it counts
groups-counted : (step : Step) (keys : List Key) → length (groups_of step keys) ≡ weight_of Elements step keys
unfolding groups_of weight_of
groups-counted step keys = by (is_list step)
  where
    by : (b : Bool) → length (indexes_of (cond b (Some (unwrap_or (value_of stated_dim keys) 0)) None)) ≡ cond b (unwrap_or (value_of stated_dim keys) 0) 1
    by true = length-map-range_with_len Some 0 (unwrap_or (value_of stated_dim keys) 0)
    by false = refl

-- and at least one
weight-some : (step : Step) (keys : List Key) → IsFine step keys → 1 ≤ weight_of Elements step keys
unfolding weight_of
weight-some step keys fine = by (is_list step) refl
  where
    listed : (o : Option ℕ) → FreeBy step.name keys o → is_marked step.name ≡ true → 1 ≤ unwrap_or o 0
    listed None free mark = absurd (let e : true ≡ false = sym mark ∙ free in cc)
    listed (Some d) free mark = free.least

    by : (b : Bool) → is_list step ≡ b → 1 ≤ cond b (unwrap_or (value_of stated_dim keys) 0) 1
    by true list = listed (value_of stated_dim keys) (free-by step keys (list-kind step list) fine.free) (list-marked step list)
    by false unlisted = omega arith

-- what may have a dimension is counted
counted : (step : Step) → has_dimension step.kind ≡ true → counts Elements step ≡ true
counted step may = by step.kind may
  where
    by : (kind : Kind) → has_dimension kind ≡ true → counts Elements (record { kind = kind; name = step.name; number = step.number }) ≡ true
    by peripheral e = refl
    by cluster e = refl
    by register e = refl
    by field e = refl
    by set e = absurd cc
    by value e = absurd cc

-- no more siblings stand there after unfolding than are counted
pub few : (f : Forest Step Key) → AreFine true f → length (unfolded_list capped f) ≤ weighed Elements f
unfolding AreFine unfolded_list weighed
few leaf h = omega arith
few (node step keys c n) h =
    by (few n h.3) (length-append (groups capped step keys below) (unfolded_list capped n)) (length-map (groups_of step keys) (group_of capped step keys below) ∙ groups-counted step keys)
    (ap (λ b. cond b 1 0) (counted step h.0))
    (mul-le (weight_of Elements step keys) 1 (weight_of Elements step keys) (cond (counts Elements step) 1 0 + weighed Elements c) (omega arith))
  where
    below : Forest Step Key
    below = siblings (numbered_list [] (unfolded_list capped c))

    by : length (unfolded_list capped n) ≤ weighed Elements n → length (unfolded_list capped (node step keys c n)) ≡ length (groups capped step keys below) + length (unfolded_list capped n) → length (groups capped step keys below) ≡ weight_of Elements step keys → ◌≡◌ {A = ℕ} (cond (counts Elements step) 1 0) 1 → (1 ≤ cond (counts Elements step) 1 0 + weighed Elements c → weight_of Elements step keys * 1 ≤ weight_of Elements step keys * (cond (counts Elements step) 1 0 + weighed Elements c)) → length (unfolded_list capped (node step keys c n)) ≤ weight_of Elements step keys * (cond (counts Elements step) 1 0 + weighed Elements c) + weighed Elements n
    by others whole here one most =
        let least : weight_of Elements step keys * 1 ≤ weight_of Elements step keys * (cond (counts Elements step) 1 0 + weighed Elements c) = most (omega (arith, one)) in
        omega (arith, others, whole, here, least)

-- where there are few in all
pub narrow : (f : Forest Step Key) → AreFine true f → weighed Elements f < 2 ^ 32 → AreNarrow f
unfolding AreFine AreNarrow weighed
narrow leaf h less = tt
narrow (node step keys c n) h less =
    let parts = within (mul-le 1 (cond (counts Elements step) 1 0 + weighed Elements c) (weight_of Elements step keys) (cond (counts Elements step) 1 0 + weighed Elements c) (weight-some step keys h.1) (omega arith)) less in
    (by step.kind h.2 parts.0 (λ k. narrow c k parts.0), narrow n h.3 parts.1)
  where
    within : 1 * (cond (counts Elements step) 1 0 + weighed Elements c) ≤ weight_of Elements step keys * (cond (counts Elements step) 1 0 + weighed Elements c) → weight_of Elements step keys * (cond (counts Elements step) 1 0 + weighed Elements c) + weighed Elements n < 2 ^ 32 → (weighed Elements c < 2 ^ 32) × (weighed Elements n < 2 ^ 32)
    within le lt = (omega (arith, le, lt), omega (arith, lt))

    enough : AreFine true c → weighed Elements c < 2 ^ 32 → AreFew c
    enough fine lt = let most = few c fine in omega (arith, most, lt)

    by : (kind : Kind) → AreFine (has_below kind) c → weighed Elements c < 2 ^ 32 → (AreFine true c → AreNarrow c) → NarrowBy kind c (AreNarrow c)
    by peripheral fine lt deeper = (enough fine lt, deeper fine)
    by cluster fine lt deeper = (enough fine lt, deeper fine)
    by register fine lt deeper = enough fine lt
    by field fine lt deeper = tt
    by set fine lt deeper = tt
    by value fine lt deeper = tt
