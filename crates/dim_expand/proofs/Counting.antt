-- Counts, step by step as the code makes them, up to 2^64 - 1.
use Rattle.std.proofs.Common.{◌≡◌, ℕ, zero, suc, ◌+◌, ◌-◌, ◌*◌, ◌^◌, ◌≤◌, ◌<◌, min, Bool, true, false, cond, ◌&&◌, nat_le, List, [], ◌∷◌, length, map, drop, get_or, unwrap_or, refl, sym, ap, ap₂, ◌∙◌, subst, arith, zero-mul, suc-mul}
use Rattle.std.specs.List.{sum_by}
use Rattle.std.proofs.lemmas.Bool.Decides.{nat_tests}
use Rattle.std.proofs.lemmas.List.{drop_more, drop_all}
use Rattle.std.proofs.lemmas.List.Sums.{sum_by-append}
use Rattle.dim_expand.specs.Groups.{HasDim}
use Rattle.dim_expand.specs.Marks.{has_dimension, may_be_array, is_list, is_list_name}
use Rattle.dim_expand.specs.Walks.{AreTyped, IsTypedAt, weighed, weighed_at, weight_of, weight_by, counts, counts_kind}
use Rattle.dim_expand.proofs.Stated.{no_dim, set-dim, value-dim, set-typed, value-typed}
use Rattle.svd_model.specs.declared.counted.Counted.{Counted}
use Rattle.svd_model.specs.declared.counted.Counted.TheVariants.{Elements, Registers, Fields, Values}
use Rattle.svd_model.specs.declared.device.Dim.{Dim}
use Rattle.svd_model.specs.declared.device.Values.{Values as ValuesOf}
use Rattle.svd_model.specs.declared.device.Variant.{Variant}
use Rattle.svd_model.specs.Counting.{told_count}
use Rattle.svd_model.specs.Keys.{Key}
use Rattle.svd_model.specs.Stating.{value_of, stated_dim}
use Rattle.svd_model.specs.Steps.{Step, peripheral, cluster, set, value}
use Rattle.svd_model.specs.Trees.{set_tree, value_tree, numbered, set_places, value_places}
use Rattle.svd_rows.specs.Forest.{Tree, siblings}
use Rattle.svd_rows.specs.Ranks.{stated}

-- ---- sums and products that stop at a greatest number

sums : (most t h r w : ℕ) → min (t + (h + r)) most ≡ w → min (min (t + min h most) most + r) most ≡ w
sums most t h r w e = (omega arith) ∙ e

capped_product : (most w x : ℕ) → min (w * min x most) most ≡ min (w * x) most
capped_product most w x = by (nat_le x most) refl
  where
    both : (a b : ℕ) → most < x → min (a + most) most ≡ min (b + x) most
    both a b less = omega (arith, less)

    past : (v : ℕ) → most < x → min (v * most) most ≡ min (v * x) most
    past zero less = ap₂ (λ a b. min a most) (zero-mul most) (zero-mul x) ∙ ap (λ a. min a most) (sym (zero-mul x))
    past (suc v) less = ap (λ a. min a most) (suc-mul v most) ∙ both (v * most) (v * x) less ∙ ap (λ a. min a most) (sym (suc-mul v x))

    by : (b : Bool) → nat_le x most ≡ b → min (w * min x most) most ≡ min (w * x) most
    by true e =
        let within : x ≤ most = grind (arith, nat_tests, e) in
        let one : min x most ≡ x = omega (arith, within) in
        ap (λ n. min (w * n) most) one
    by false e =
        let less : most < x = grind (arith, nat_tests, e) in
        let one : min x most ≡ most = omega (arith, less) in
        ap (λ n. min (w * n) most) one ∙ past w less

-- so many times an element and what is below it
pub times_told : (w own b : ℕ) → told_count (w * told_count (own + told_count b)) ≡ told_count (w * (own + b))
times_told w own b =
    ap (λ n. min (w * n) (2 ^ 64 - 1)) (inner (2 ^ 64 - 1)) ∙ capped_product (2 ^ 64 - 1) w (own + b)
  where
    inner : (most : ℕ) → min (own + min b most) most ≡ min (own + b) most
    inner most = omega arith

-- ---- siblings one after the other

pub record CountedUpTo (counted : Counted) (all : List (Step × Tree Step Key)) (total : ℕ) (left : List (Step × Tree Step Key)) : Type 0 where
  pub fits : total ≤ 2 ^ 64 - 1
  pub count : told_count (total + weighed counted (siblings left)) ≡ told_count (weighed counted (siblings all))
  pub typed : AreTyped true (siblings left) → AreTyped true (siblings all)

pub counted_begun : (counted : Counted) (all left : List (Step × Tree Step Key)) → left ≡ all → CountedUpTo counted all 0 left
counted_begun counted all left is =
    subst (λ xs. CountedUpTo counted all 0 xs) (sym is) (record { fits = omega arith; count = ap told_count (zero_sum (weighed counted (siblings all))); typed = λ h. h })
  where
    zero_sum : (n : ℕ) → 0 + n ≡ n
    zero_sum n = omega arith

pub told_fits : (now n : ℕ) → now ≡ told_count n → now ≤ 2 ^ 64 - 1
told_fits now n is = omega (arith, is)

pub counted_more : (counted : Counted) (all left rest : List (Step × Tree Step Key)) (x : Step × Tree Step Key) (total here now : ℕ) → CountedUpTo counted all total left → left ≡ x ∷ rest → here ≡ told_count (weighed_at counted x) → now ≡ told_count (total + here) → IsTypedAt x → CountedUpTo counted all now rest
unfolding weighed siblings AreTyped
counted_more counted all left rest x total here now so_far is says grew typed = record {
  fits = told_fits now (total + here) grew;
  count =
      ap (λ n. min (n + weighed counted (siblings rest)) (2 ^ 64 - 1)) (grew ∙ ap (λ n. told_count (total + n)) says)
      ∙ sums (2 ^ 64 - 1) total (weighed_at counted x) (weighed counted (siblings rest)) (told_count (weighed counted (siblings all)))
      (sym (ap (λ xs. told_count (total + weighed counted (siblings xs))) is) ∙ so_far.count);
  typed = λ h. so_far.typed (subst (λ xs. AreTyped true (siblings xs)) (sym is) (typed.0, typed.1, typed.2, h));
}

pub counted_all : (counted : Counted) (all left : List (Step × Tree Step Key)) (total : ℕ) → CountedUpTo counted all total left → left ≡ [] → total ≡ told_count (weighed counted (siblings all))
unfolding weighed siblings
counted_all counted all left total so_far none =
    plain total so_far.fits ∙ sym (ap (λ xs. told_count (total + weighed counted (siblings xs))) none) ∙ so_far.count
  where
    plain : (t : ℕ) → t ≤ 2 ^ 64 - 1 → t ≡ told_count (t + 0)
    plain t fits = omega (arith, fits)

pub typed_all : (counted : Counted) (all left : List (Step × Tree Step Key)) (total : ℕ) → CountedUpTo counted all total left → left ≡ [] → AreTyped true (siblings all)
unfolding siblings AreTyped
typed_all counted all left total so_far none = so_far.typed (subst (λ xs. AreTyped true (siblings xs)) (sym none) tt)

-- ---- one element

pub weight-says : (counted : Counted) (step : Step) (keys : List Key) (dim : Dim) → has_dimension step.kind ≡ true → HasDim keys dim → weight_of counted step keys ≡ weight_by counted (may_be_array step.kind) step.name dim.count
unfolding weight_of is_list
weight-says Elements step keys dim may says =
    ap₂ (λ b c. cond (b && is_list_name (may_be_array step.kind) step.name) (unwrap_or c 0) 1) may says.count
weight-says Registers step keys dim may says = ap (λ c. unwrap_or c 1) says.count
weight-says Fields step keys dim may says = ap (λ c. unwrap_or c 1) says.count
weight-says Values step keys dim may says = ap (λ c. unwrap_or c 1) says.count

-- an element that is counted with what is below it
pub weighed-says : (counted : Counted) (step : Step) (tree : Tree Step Key) (dim : Dim) (own : Bool) (weight below result : ℕ) → has_dimension step.kind ≡ true → HasDim tree.keys dim → own ≡ counts counted step → weight ≡ weight_by counted (may_be_array step.kind) step.name dim.count → below ≡ told_count (weighed counted tree.below) → result ≡ told_count (weight * told_count (cond own 1 0 + below)) → result ≡ told_count (weighed_at counted (step, tree))
weighed-says counted step tree dim own weight below result may says is_own is_weight is_below is =
    is
    ∙ (λ i. told_count ((is_weight ∙ sym (weight-says counted step tree.keys dim may says)) i * told_count (cond (is_own i) 1 0 + is_below i)))
    ∙ times_told (weight_of counted step tree.keys) (cond (counts counted step) 1 0) (weighed counted tree.below)

-- ---- sets and values

-- elements that have no dimension count once
plain-weight : (counted : Counted) (step : Step) (keys : List Key) → has_dimension step.kind ≡ false → HasDim keys no_dim → weight_of counted step keys ≡ 1
unfolding weight_of is_list
plain-weight Elements step keys may says = ap (λ b. cond (b && is_list_name (may_be_array step.kind) step.name) (unwrap_or (value_of stated_dim keys) 0) 1) may
plain-weight Registers step keys may says = ap (λ c. unwrap_or c 1) says.count
plain-weight Fields step keys may says = ap (λ c. unwrap_or c 1) says.count
plain-weight Values step keys may says = ap (λ c. unwrap_or c 1) says.count

pub sum-cons : {X : Type 0} (f : X → ℕ) (x : X) (xs : List X) → sum_by f (x ∷ xs) ≡ f x + sum_by f xs
sum-cons f x xs = sum_by-append f (x ∷ []) xs ∙ plain (f x) (sum_by f xs)
  where
    plain : (a b : ℕ) → (0 + a) + b ≡ a + b
    plain a b = omega arith

-- the lengths that are left, up to a greatest sum
pub sum_more : (most : ℕ) (sets : List ValuesOf) (i : ℕ) (item : ValuesOf) (total here now whole : ℕ) → i < length sets → item ≡ get_or sets i item → here ≡ length item.items.items → now ≡ min (total + here) most → min (total + sum_by (λ set. length set.items.items) (drop i sets)) most ≡ whole → min (now + sum_by (λ set. length set.items.items) (drop (i + 1) sets)) most ≡ whole
sum_more most sets i item total here now whole inside is says grew before =
    ap (λ n. min (n + sum_by (λ set. length set.items.items) (drop (i + 1) sets)) most) (grew ∙ ap (λ n. min (total + n) most) says)
    ∙ plain total (length item.items.items) (sum_by (λ set. length set.items.items) (drop (i + 1) sets))
    ∙ sym (ap (λ n. min (total + n) most) (ap (sum_by (λ set. length set.items.items)) (drop_more sets i item inside ∙ ap (λ x. x ∷ drop (i + 1) sets) (sym is)) ∙ sum-cons (λ (set : ValuesOf). length set.items.items) item (drop (i + 1) sets)))
    ∙ before
  where
    plain : (t h r : ℕ) → min (min (t + h) most + r) most ≡ min (t + (h + r)) most
    plain t h r = omega arith

pub sum_done : (most : ℕ) (sets : List ValuesOf) (i total whole : ℕ) → length sets ≤ i → total ≤ most → min (total + sum_by (λ set. length set.items.items) (drop i sets)) most ≡ whole → total ≡ whole
sum_done most sets i total whole past fits before =
    plain total fits ∙ sym (ap (λ xs. min (total + sum_by (λ (set : ValuesOf). length set.items.items) xs) most) (drop_all i sets past)) ∙ before
  where
    plain : (t : ℕ) → t ≤ most → t ≡ min (t + 0) most
    plain t fits = omega (arith, fits)

-- whether values count
abbrev pub of_values : Counted → ℕ
of_values Elements = 1
of_values Registers = 0
of_values Fields = 0
of_values Values = 1

one_value : (counted : Counted) (n : ℕ) (name : List ℕ) → cond (counts counted (record { kind = value; name = name; number = n })) 1 0 ≡ of_values counted
one_value Elements n name = refl
one_value Registers n name = refl
one_value Fields n name = refl
one_value Values n name = refl

no_set : (counted : Counted) (n : ℕ) (name : List ℕ) → ◌≡◌ {A = ℕ} (cond (counts counted (record { kind = set; name = name; number = n })) 1 0) 0
no_set Elements n name = refl
no_set Registers n name = refl
no_set Fields n name = refl
no_set Values n name = refl

values-weighed : (counted : Counted) (n : ℕ) (all : List Variant) → weighed counted (numbered value n (map value_tree all)) ≡ of_values counted * length all
unfolding weighed numbered
values-weighed counted n [] = sym (none (of_values counted))
  where
    none : (w : ℕ) → w * 0 ≡ 0
    none w = omega arith
values-weighed counted n (x ∷ xs) =
    (λ i. plain-weight counted (record { kind = value; name = x.name; number = n }) (stated (value_places x)) refl (value-dim x) i * (one_value counted n x.name i + 0) + values-weighed counted (n + 1) xs i)
    ∙ step (of_values counted) (length xs)
  where
    step : (w l : ℕ) → 1 * (w + 0) + w * l ≡ w * suc l
    step w l = omega arith

pub sets-weighed : (counted : Counted) (n : ℕ) (all : List ValuesOf) → weighed counted (numbered set n (map set_tree all)) ≡ of_values counted * sum_by (λ set. length set.items.items) all
unfolding weighed numbered
sets-weighed counted n [] = sym (none (of_values counted))
  where
    none : (w : ℕ) → w * 0 ≡ 0
    none w = omega arith
sets-weighed counted n (x ∷ xs) =
    (λ i. plain-weight counted (record { kind = set; name = unwrap_or x.name []; number = n }) (stated (set_places x)) refl (set-dim x) i * (no_set counted n (unwrap_or x.name []) i + values-weighed counted 0 x.items.items i) + sets-weighed counted (n + 1) xs i)
    ∙ step (of_values counted) (length x.items.items) (sum_by (λ set. length set.items.items) xs)
    ∙ ap (λ n. of_values counted * n) (sym (sum-cons (λ (set : ValuesOf). length set.items.items) x xs))
  where
    step : (w l s : ℕ) → 1 * (0 + w * l) + w * s ≡ w * (l + s)
    step w l s = omega arith

values-typed : (n : ℕ) (all : List Variant) → AreTyped false (numbered value n (map value_tree all))
unfolding AreTyped numbered
values-typed n [] = tt
values-typed n (x ∷ xs) = (refl, value-typed (record { kind = value; name = x.name; number = n }) x refl, tt, values-typed (n + 1) xs)

pub sets-typed : (n : ℕ) (all : List ValuesOf) → AreTyped false (numbered set n (map set_tree all))
unfolding AreTyped numbered
sets-typed n [] = tt
sets-typed n (x ∷ xs) =
    (refl, set-typed (record { kind = set; name = unwrap_or x.name []; number = n }) x refl, values-typed 0 x.items.items, sets-typed (n + 1) xs)

-- ---- the slice of children

pub items-left : {A : Type 0} (under : A → Step × Tree Step Key) (xs : List A) (i : ℕ) (x : A) → i < length xs → x ≡ get_or xs i x → map under (drop i xs) ≡ under x ∷ map under (drop (i + 1) xs)
items-left under xs i x within is = ap (map under) (drop_more xs i x within ∙ ap (λ y. y ∷ drop (i + 1) xs) (sym is))

pub none-left : {A : Type 0} (under : A → Step × Tree Step Key) (xs : List A) (i : ℕ) → length xs ≤ i → map under (drop i xs) ≡ []
none-left under xs i past = ap (map under) (drop_all i xs past)

pub sets-count : (counted : Counted) (all : List ValuesOf) → of_values counted ≡ 1 → weighed counted (numbered set 0 (map set_tree all)) ≡ sum_by (λ set. length set.items.items) all
sets-count counted all is = sets-weighed counted 0 all ∙ ap (λ w. w * sum_by (λ (set : ValuesOf). length set.items.items) all) is ∙ one (sum_by (λ (set : ValuesOf). length set.items.items) all)
  where
    one : (n : ℕ) → 1 * n ≡ n
    one n = omega arith

pub sets-no_count : (counted : Counted) (all : List ValuesOf) → of_values counted ≡ 0 → ◌≡◌ {A = ℕ} (told_count (weighed counted (numbered set 0 (map set_tree all)))) 0
sets-no_count counted all is = ap told_count (sets-weighed counted 0 all ∙ ap (λ w. w * sum_by (λ (set : ValuesOf). length set.items.items) all) is ∙ none (sum_by (λ (set : ValuesOf). length set.items.items) all))
  where
    none : (n : ℕ) → 0 * n ≡ 0
    none n = omega arith

-- peripherals count as clusters do
pub counts-peripheral : (counted : Counted) → counts_kind counted cluster ≡ counts_kind counted peripheral
counts-peripheral Elements = refl
counts-peripheral Registers = refl
counts-peripheral Fields = refl
counts-peripheral Values = refl
