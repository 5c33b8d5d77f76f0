-- Keys that stand in places, one for each rank.
use Rattle.std.proofs.Common.{◌≡◌, ℕ, ◌+◌, ◌<◌, ◌≤◌, cond, not, nat_eq, List, [], ◌∷◌, filter, set, length, Option, None, Some, refl, sym, ap, ◌∙◌, subst, arith, lt-ltb, le-ltb, eq-eqb, ne_eqb, zero, suc, add-zero}
use Rattle.std.specs.List.{AllByRecursion}
use Rattle.svd_rows.specs.Ranks.{IsRanked, set_key, stated, IsPlaced}

module _ {K : Type 0} where
  -- the keys that are stated from a place on have its rank at least
  from_place : (rank : K → ℕ) (low first : ℕ) (places : List (Option K)) → low ≤ first → IsPlaced rank first places → AllByRecursion (λ key. low ≤ rank key) (stated places)
  unfolding IsPlaced stated
  from_place rank low first [] le h = tt
  from_place rank low first (None ∷ places) le h = from_place rank low (first + 1) places (omega arith) h
  from_place rank low first (Some key ∷ places) le h = (omega (arith, h.0), from_place rank low (first + 1) places (omega arith) h.1)

  above_place : (rank : K → ℕ) (n : ℕ) (keys : List K) → AllByRecursion (λ key. n + 1 ≤ rank key) keys → AllByRecursion (λ key. n < rank key) keys
  above_place rank n [] h = tt
  above_place rank n (key ∷ keys) h = (omega (arith, h.0), above_place rank n keys h.1)

  -- keys in their places stand by rising rank
  pub stated-ranked : (rank : K → ℕ) (first : ℕ) (places : List (Option K)) → IsPlaced rank first places → IsRanked rank (stated places)
  unfolding IsPlaced stated IsRanked
  stated-ranked rank first [] h = tt
  stated-ranked rank first (None ∷ places) h = stated-ranked rank (first + 1) places h
  stated-ranked rank first (Some key ∷ places) h = (
    subst (λ n. AllByRecursion (λ other. n < rank other) (stated places)) (sym h.0) (above_place rank first (stated places) (from_place rank (first + 1) (first + 1) places (omega arith) h.1)),
    stated-ranked rank (first + 1) places h.1,
  )

  -- a key goes before keys of greater ranks
  set_key-first : (rank : K → ℕ) (new : K) (keys : List K) → AllByRecursion (λ key. rank new < rank key) keys → set_key rank new keys ≡ new ∷ keys
  unfolding set_key
  set_key-first rank new [] h = refl
  set_key-first rank new (key ∷ keys) h =
      ap (λ b. cond b (key ∷ set_key rank new keys) (cond (nat_eq (rank key) (rank new)) (new ∷ keys) (new ∷ key ∷ keys))) (le-ltb (rank key) (rank new) (omega (arith, h.0)))
      ∙ ap (λ b. cond b (new ∷ keys) (new ∷ key ∷ keys)) (ne_eqb (rank key) (rank new) (λ e. absurd (omega (arith, h.0))))

  set_key-later : (rank : K → ℕ) (new first : K) (keys : List K) → rank first < rank new → set_key rank new (first ∷ keys) ≡ first ∷ set_key rank new keys
  unfolding set_key
  set_key-later rank new first keys less =
      ap (λ b. cond b (first ∷ set_key rank new keys) (cond (nat_eq (rank first) (rank new)) (new ∷ keys) (new ∷ first ∷ keys))) (lt-ltb (rank first) (rank new) less)

  set_key-same : (rank : K → ℕ) (new first : K) (keys : List K) → rank first ≡ rank new → set_key rank new (first ∷ keys) ≡ new ∷ keys
  unfolding set_key
  set_key-same rank new first keys same =
      ap (λ b. cond b (first ∷ set_key rank new keys) (cond (nat_eq (rank first) (rank new)) (new ∷ keys) (new ∷ first ∷ keys))) (le-ltb (rank first) (rank new) (omega arith))
      ∙ ap (λ b. cond b (new ∷ keys) (new ∷ first ∷ keys)) (eq-eqb (rank first) (rank new) same)

  place_above : (rank : K → ℕ) (first : ℕ) (new : K) (places : List (Option K)) → IsPlaced rank (first + 1) places → rank new ≡ first → AllByRecursion (λ key. rank new < rank key) (stated places)
  place_above rank first new places h e =
      subst (λ n. AllByRecursion (λ key. n < rank key) (stated places)) (sym e) (above_place rank first (stated places) (from_place rank (first + 1) (first + 1) places (omega arith) h))

  -- a key that is put into its place is set by its rank
  pub stated-set : (rank : K → ℕ) (first : ℕ) (new : K) (places : List (Option K)) (n : ℕ) → IsPlaced rank first places → n < length places → rank new ≡ first + n → stated (set places n (Some new)) ≡ set_key rank new (stated places)
  unfolding IsPlaced stated
  stated-set rank first new [] n h within e = absurd (omega (arith, within))
  stated-set rank first new (None ∷ places) zero h within e =
      sym (set_key-first rank new (stated places) (place_above rank first new places h (e ∙ add-zero first)))
  stated-set rank first new (Some key ∷ places) zero h within e =
      sym (set_key-same rank new key (stated places) (h.0 ∙ sym (e ∙ add-zero first)))
  stated-set rank first new (None ∷ places) (suc n) h within e =
      stated-set rank (first + 1) new places n h (omega (arith, within)) (omega (arith, e))
  stated-set rank first new (Some key ∷ places) (suc n) h within e =
      ap (λ r. key ∷ r) (stated-set rank (first + 1) new places n h.1 (omega (arith, within)) (omega (arith, e)))
      ∙ sym (set_key-later rank new key (stated places) (omega (arith, e, h.0)))

  -- keys of greater ranks all stay where those of a rank are left out
  kept_above : (rank : K → ℕ) (r : ℕ) (keys : List K) → AllByRecursion (λ key. r < rank key) keys → filter (λ key. not (nat_eq (rank key) r)) keys ≡ keys
  kept_above rank r [] h = refl
  kept_above rank r (key ∷ keys) h =
      ap (λ b. cond (not b) (key ∷ filter (λ other. not (nat_eq (rank other) r)) keys) (filter (λ other. not (nat_eq (rank other) r)) keys)) (ne_eqb (rank key) r (λ e. absurd (omega (arith, h.0))))
      ∙ ap (λ rest. key ∷ rest) (kept_above rank r keys h.1)

  kept_place : (rank : K → ℕ) (first r : ℕ) (places : List (Option K)) → IsPlaced rank (first + 1) places → r ≡ first → filter (λ key. not (nat_eq (rank key) r)) (stated places) ≡ stated places
  kept_place rank first r places h e =
      kept_above rank r (stated places) (subst (λ n. AllByRecursion (λ key. n < rank key) (stated places)) (sym e) (above_place rank first (stated places) (from_place rank (first + 1) (first + 1) places (omega arith) h)))

  -- a key that is taken out of its place is left out by its rank
  pub stated-unset : (rank : K → ℕ) (first r : ℕ) (places : List (Option K)) (n : ℕ) → IsPlaced rank first places → n < length places → r ≡ first + n → stated (set places n None) ≡ filter (λ key. not (nat_eq (rank key) r)) (stated places)
  unfolding IsPlaced stated
  stated-unset rank first r [] n h within e = absurd (omega (arith, within))
  stated-unset rank first r (None ∷ places) zero h within e = sym (kept_place rank first r places h (e ∙ add-zero first))
  stated-unset rank first r (Some key ∷ places) zero h within e =
      sym
      (ap (λ b. cond (not b) (key ∷ filter (λ other. not (nat_eq (rank other) r)) (stated places)) (filter (λ other. not (nat_eq (rank other) r)) (stated places))) (eq-eqb (rank key) r (h.0 ∙ sym (e ∙ add-zero first)))
      ∙ kept_place rank first r places h.1 (e ∙ add-zero first))
  stated-unset rank first r (None ∷ places) (suc n) h within e = stated-unset rank (first + 1) r places n h (omega (arith, within)) (omega (arith, e))
  stated-unset rank first r (Some key ∷ places) (suc n) h within e =
      ap (λ rest. key ∷ rest) (stated-unset rank (first + 1) r places n h.1 (omega (arith, within)) (omega (arith, e)))
      ∙ sym (ap (λ b. cond (not b) (key ∷ filter (λ other. not (nat_eq (rank other) r)) (stated places)) (filter (λ other. not (nat_eq (rank other) r)) (stated places))) (ne_eqb (rank key) r (λ same. absurd (omega (arith, e, same, h.0)))))
