-- Members and steps that are set among the keys of an element, where an element states `dim`, and where it starts.
use Rattle.std.proofs.Common.{◌≡◌, ℕ, ◌+◌, ◌*◌, ◌<◌, Bool, true, false, cond, not, nat_eq, nat_lt, ◌||◌, List, [], ◌∷◌, filter, length, set, Option, Some, None, refl, sym, ap, ap₂, ◌∙◌, arith, is_some, unwrap_or, le-ltb, ne_eqb}
use Rattle.std.specs.List.{AllByRecursion, list_any}
use Rattle.patch_arrays.proofs.Told.{placed-with}
use Rattle.patch_arrays.specs.Arranging.{dimmed, put_key}
use Rattle.patch_arrays.specs.Unplaced.{Unplaced, places_with, with_members}
use Rattle.svd_model.specs.Facts.{is_dim}
use Rattle.svd_model.specs.Keys.{Key, rank, dim_count, dim_increment, base_address, at_offset}
use Rattle.svd_model.specs.Stating.{start_of, stated_base, stated_dim, stated_increment, stated_offset, value_of}
use Rattle.svd_model.proofs.Stated.{found, stated_back}
use Rattle.svd_rows.proofs.Places.{stated-ranked, stated-set}
use Rattle.svd_rows.specs.RowEdits.{added, some_pass}
use Rattle.svd_rows.specs.Ranks.{IsPlaced, IsRanked, set_key, stated}

module _ (key : Key) where
  abbrev is_lower : Key → Bool
  is_lower other = nat_lt (rank other) (rank key)

  abbrev isnt_it : Key → Bool
  isnt_it other = not (nat_eq (rank other) (rank key))

  -- behind those of lower rank
  abbrev behind_lower : List Key → List Key
  behind_lower others = cond (some_pass is_lower others) (added is_lower (key ∷ []) others) (key ∷ others)

  none_lower : (keys : List Key) → AllByRecursion (λ later. rank key < rank later) keys → some_pass is_lower keys ≡ false
  unfolding some_pass
  none_lower [] all = refl
  none_lower (k ∷ keys) all = ap₂ (λ (a b : Bool). a || b) (le-ltb (rank k) (rank key) (omega (arith, all.0))) (none_lower keys all.1)

  all_kept : (keys : List Key) → AllByRecursion (λ later. rank key < rank later) keys → filter isnt_it keys ≡ keys
  all_kept [] all = refl
  all_kept (k ∷ keys) all =
      ap (λ (b : Bool). cond (not b) (k ∷ filter isnt_it keys) (filter isnt_it keys)) (ne_eqb (rank k) (rank key) (λ e. absurd (omega (arith, all.0, e))))
      ∙ ap (λ (r : List Key). k ∷ r) (all_kept keys all.1)

  goes_first : (keys : List Key) → AllByRecursion (λ later. rank key < rank later) keys → behind_lower (filter isnt_it keys) ≡ key ∷ keys
  goes_first keys all =
      ap behind_lower (all_kept keys all) ∙ ap (λ (b : Bool). cond b (added is_lower (key ∷ []) keys) (key ∷ keys)) (none_lower keys all)

  raised : (k : Key) (keys : List Key) → rank key ≡ rank k → AllByRecursion (λ later. rank k < rank later) keys → AllByRecursion (λ later. rank key < rank later) keys
  raised k [] e all = tt
  raised k (l ∷ keys) e all = (omega (arith, e, all.0), raised k keys e all.1)

  higher : (k : Key) (keys : List Key) → rank key < rank k → AllByRecursion (λ later. rank k < rank later) keys → AllByRecursion (λ later. rank key < rank later) keys
  higher k [] less all = tt
  higher k (l ∷ keys) less all = (omega (arith, less, all.0), higher k keys less all.1)

  put-behind : (k : Key) (rest : List Key) → is_lower k ≡ true → behind_lower (k ∷ rest) ≡ k ∷ behind_lower rest
  unfolding some_pass added
  put-behind k rest lower =
      ap (λ (b : Bool). cond (b || some_pass is_lower rest) (cond (some_pass is_lower rest) (k ∷ added is_lower (key ∷ []) rest) (cond b (k ∷ (key ∷ rest)) (k ∷ rest))) (key ∷ (k ∷ rest))) lower
      ∙ cases (some_pass is_lower rest)
    where
      cases : (b : Bool) → cond b (k ∷ added is_lower (key ∷ []) rest) (k ∷ (key ∷ rest)) ≡ k ∷ cond b (added is_lower (key ∷ []) rest) (key ∷ rest)
      cases true = refl
      cases false = refl

  -- among keys by rising rank it goes where its rank says
  put-ranked : (keys : List Key) → IsRanked rank keys → behind_lower (filter isnt_it keys) ≡ set_key rank key keys
  unfolding IsRanked set_key some_pass
  put-ranked [] ranked = refl
  put-ranked (k ∷ keys) ranked = by (nat_lt (rank k) (rank key)) (nat_eq (rank k) (rank key)) refl refl (put-ranked keys ranked.1)
    where
      less : (m n : ℕ) → nat_lt m n ≡ true → m < n
      less m n e = grind (arith, e)

      same : (m n : ℕ) → nat_eq m n ≡ true → m ≡ n
      same m n e = grind (arith, e)

      more : (m n : ℕ) → nat_lt m n ≡ false → nat_eq m n ≡ false → n < m
      more m n e k = grind (arith, e, k)

      by : (a b : Bool) → nat_lt (rank k) (rank key) ≡ a → nat_eq (rank k) (rank key) ≡ b → behind_lower (filter isnt_it keys) ≡ set_key rank key keys
          → behind_lower (cond (not (nat_eq (rank k) (rank key))) (k ∷ filter isnt_it keys) (filter isnt_it keys)) ≡ cond (nat_lt (rank k) (rank key)) (k ∷ set_key rank key keys) (cond (nat_eq (rank k) (rank key)) (key ∷ keys) (key ∷ k ∷ keys))
      by true true e f so = let clash = less (rank k) (rank key) e in absurd (omega (arith, clash, same (rank k) (rank key) f))
      by true false e f so =
          ap (λ (b : Bool). behind_lower (cond (not b) (k ∷ filter isnt_it keys) (filter isnt_it keys))) f
          ∙ put-behind k (filter isnt_it keys) e
          ∙ ap (λ (r : List Key). k ∷ r) so
          ∙ sym (ap (λ (b : Bool). cond b (k ∷ set_key rank key keys) (cond (nat_eq (rank k) (rank key)) (key ∷ keys) (key ∷ k ∷ keys))) e)
      by false true e f so =
          ap (λ (b : Bool). behind_lower (cond (not b) (k ∷ filter isnt_it keys) (filter isnt_it keys))) f
          ∙ goes_first keys (raised k keys (sym (same (rank k) (rank key) f)) ranked.0)
          ∙ sym (ap₂ (λ (a b : Bool). cond a (k ∷ set_key rank key keys) (cond b (key ∷ keys) (key ∷ k ∷ keys))) e f)
      by false false e f so =
          ap (λ (b : Bool). behind_lower (cond (not b) (k ∷ filter isnt_it keys) (filter isnt_it keys))) f
          ∙ ap (λ (r : List Key). behind_lower (k ∷ r)) (all_kept keys (higher k keys (more (rank k) (rank key) e f) ranked.0))
          ∙ ap (λ (b : Bool). cond b (added is_lower (key ∷ []) (k ∷ keys)) (key ∷ k ∷ keys)) (none_lower (k ∷ keys) (more (rank k) (rank key) e f, higher k keys (more (rank k) (rank key) e f) ranked.0))
          ∙ sym (ap₂ (λ (a b : Bool). cond a (k ∷ set_key rank key keys) (cond b (key ∷ keys) (key ∷ k ∷ keys))) e f)

put-set : (key : Key) (keys : List Key) → IsRanked rank keys → put_key key keys ≡ set_key rank key keys
unfolding put_key
put-set key keys ranked = put-ranked key keys ranked

put-stated : (key : Key) (places : List (Option Key)) (n : ℕ) → IsPlaced rank 0 places → n < length places → rank key ≡ 0 + n → put_key key (stated places) ≡ stated (set places n (Some key))
put-stated key places n placed within e =
    put-set key (stated places) (stated-ranked rank 0 places placed) ∙ sym (stated-set rank 0 key places n placed within e)

-- an element with other members
abbrev pub with_count : ℕ → ℕ → Unplaced → Unplaced
with_count count step one = record { number = one.number; usage = one.usage; alternate = one.alternate; group = one.group; width = one.width; kind = one.kind; action = one.action; dim = with_members count step one.dim; props = one.props; derived = one.derived }

abbrev counted : ℕ → Unplaced → Unplaced
counted count one = record { number = one.number; usage = one.usage; alternate = one.alternate; group = one.group; width = one.width; kind = one.kind; action = one.action; dim = record { count = Some count; step = one.dim.step; index = one.dim.index }; props = one.props; derived = one.derived }

count-put : (base offset : Option ℕ) (one : Unplaced) (count : ℕ) → put_key (dim_count count) (stated (places_with base offset one)) ≡ stated (places_with base offset (counted count one))
unfolding places_with rank
count-put base offset one count = put-stated (dim_count count) (places_with base offset one) 2 (placed-with base offset one) (omega arith) refl

step-put : (base offset : Option ℕ) (one : Unplaced) (count step : ℕ) → put_key (dim_increment step) (stated (places_with base offset (counted count one))) ≡ stated (places_with base offset (with_count count step one))
unfolding places_with rank
step-put base offset one count step = put-stated (dim_increment step) (places_with base offset (counted count one)) 3 (placed-with base offset (counted count one)) (omega arith) refl

pub dimmed-with : (base offset : Option ℕ) (one : Unplaced) (count step : ℕ) → stated (places_with base offset (with_count count step one)) ≡ dimmed count step (stated (places_with base offset one))
dimmed-with base offset one count step =
    sym (ap (put_key (dim_increment step)) (count-put base offset one count) ∙ step-put base offset one count step)

-- ---- what is stated

some-dim : (keys : List Key) → list_any is_dim keys ≡ is_some (value_of stated_dim keys)
unfolding value_of
some-dim [] = refl
some-dim (dim_count n ∷ keys) = refl
some-dim (_ ∷ keys) = some-dim keys

other-dim : (key : Key) → (rank key ≡ 2 → ⊥) → stated_dim key ≡ None
unfolding rank
other-dim (dim_count n) h = absurd (h refl)
other-dim _ h = refl

other-base : (key : Key) → (rank key ≡ 5 → ⊥) → stated_base key ≡ None
unfolding rank
other-base (base_address n) h = absurd (h refl)
other-base _ h = refl

other-offset : (key : Key) → (rank key ≡ 6 → ⊥) → stated_offset key ≡ None
unfolding rank
other-offset (at_offset n) h = absurd (h refl)
other-offset _ h = refl

pub dim-with : (base offset : Option ℕ) (one : Unplaced) → list_any is_dim (stated (places_with base offset one)) ≡ is_some one.dim.count
unfolding places_with
dim-with base offset one =
    some-dim (stated (places_with base offset one))
    ∙ ap is_some (found stated_dim 2 other-dim (places_with base offset one) (placed-with base offset one) ∙ stated_back dim_count stated_dim (λ _. refl) one.dim.count)

pub base-with : (base offset : Option ℕ) (one : Unplaced) → value_of stated_base (stated (places_with base offset one)) ≡ base
unfolding places_with
base-with base offset one = found stated_base 5 other-base (places_with base offset one) (placed-with base offset one) ∙ stated_back base_address stated_base (λ _. refl) base

pub offset-with : (base offset : Option ℕ) (one : Unplaced) → value_of stated_offset (stated (places_with base offset one)) ≡ offset
unfolding places_with
offset-with base offset one = found stated_offset 6 other-offset (places_with base offset one) (placed-with base offset one) ∙ stated_back at_offset stated_offset (λ _. refl) offset

pub start-with : (base offset : Option ℕ) (one : Unplaced) → start_of (stated (places_with base offset one)) None ≡ unwrap_or base 0 + unwrap_or offset 0
start-with base offset one =
    ap₂ (λ (b o : Option ℕ). unwrap_or b 0 + unwrap_or o 0 + 0 * unwrap_or (value_of stated_increment (stated (places_with base offset one))) 0) (base-with base offset one) (offset-with base offset one)
    ∙ plain (unwrap_or base 0) (unwrap_or offset 0) (unwrap_or (value_of stated_increment (stated (places_with base offset one))) 0)
  where
    plain : (a b c : ℕ) → a + b + 0 * c ≡ a + b
    plain a b c = omega arith
