-- Taking keys is taking them place by place.
use Rattle.std.proofs.Common.{◌≡◌, ℕ, suc, ◌+◌, ◌<◌, ◌≤◌, Bool, true, false, ◌||◌, cond, nat_eq, List, [], ◌∷◌, ◌++◌, set, length, Option, None, Some, refl, sym, ap, ◌∙◌, subst, arith, append_assoc, zero-add}
use Rattle.std.specs.List.{list_any}
use Rattle.std.proofs.lemmas.Bool.{eq-eqb, ne_eqb}
use Rattle.std.proofs.lemmas.List.{length_push, length-append}
use Rattle.std.proofs.lemmas.List.Folds.{list_any-append}
use Rattle.derived_graph.specs.Places.{picked, picked_all, TakesByPlaces}
use Rattle.derived_rows.specs.Merging.{stays_behind, is_stated, with_taken, taken}
use Rattle.need_order.proofs.Numbers.{or_right, both_false}
use Rattle.svd_model.specs.Keys.{Key, rank}
use Rattle.svd_rows.specs.Ranks.{stated, set_key, IsPlaced}
use Rattle.svd_rows.proofs.Places.{stated-set}

placed-append : (first : ℕ) (xs ys : List (Option Key)) → IsPlaced rank first xs → IsPlaced rank (first + length xs) ys → IsPlaced rank first (xs ++ ys)
unfolding IsPlaced
placed-append first [] ys h k = subst (λ n. IsPlaced rank n ys) (none first) k
  where
    none : (n : ℕ) → n + 0 ≡ n
    none n = omega arith
placed-append first (None ∷ xs) ys h k = placed-append (first + 1) xs ys h (subst (λ n. IsPlaced rank n ys) (more first (length xs)) k)
  where
    more : (n m : ℕ) → n + suc m ≡ n + 1 + m
    more n m = omega arith
placed-append first (Some key ∷ xs) ys h k = (h.0, placed-append (first + 1) xs ys h.1 (subst (λ n. IsPlaced rank n ys) (more first (length xs)) k))
  where
    more : (n m : ℕ) → n + suc m ≡ n + 1 + m
    more n m = omega arith

stated-append : (xs ys : List (Option Key)) → stated (xs ++ ys) ≡ stated xs ++ stated ys
unfolding stated
stated-append [] ys = refl
stated-append (None ∷ xs) ys = stated-append xs ys
stated-append (Some key ∷ xs) ys = ap (λ r. key ∷ r) (stated-append xs ys)

none-before : (first : ℕ) (xs : List (Option Key)) (key : Key) → IsPlaced rank first xs → first + length xs ≤ rank key → is_stated (stated xs) key ≡ false
unfolding IsPlaced stated is_stated
none-before first [] key h past = refl
none-before first (None ∷ xs) key h past = none-before (first + 1) xs key h (omega (arith, past))
none-before first (Some x ∷ xs) key h past =
    both_false (nat_eq (rank x) (rank key)) (is_stated (stated xs) key) (ne_eqb (rank x) (rank key) (λ e. absurd (omega (arith, e, h.0, past)))) (none-before (first + 1) xs key h.1 (omega (arith, past)))

none-behind : (first : ℕ) (xs : List (Option Key)) (key : Key) → IsPlaced rank first xs → rank key < first → is_stated (stated xs) key ≡ false
unfolding IsPlaced stated is_stated
none-behind first [] key h less = refl
none-behind first (None ∷ xs) key h less = none-behind (first + 1) xs key h (omega (arith, less))
none-behind first (Some x ∷ xs) key h less =
    both_false (nat_eq (rank x) (rank key)) (is_stated (stated xs) key) (ne_eqb (rank x) (rank key) (λ e. absurd (omega (arith, e, h.0, less)))) (none-behind (first + 1) xs key h.1 (omega (arith, less)))

set-seam : (before : List (Option Key)) (old new : Option Key) (after : List (Option Key)) → set (before ++ (old ∷ after)) (length before) new ≡ before ++ (new ∷ after)
set-seam [] old new after = refl
set-seam (x ∷ before) old new after = ap (λ r. x ∷ r) (set-seam before old new after)

module _ (marked : Bool) where
  -- what is stated stays
  stays : (before : List (Option Key)) (own : Key) (places : List (Option Key)) (key : Key) → rank own ≡ rank key → with_taken marked key (stated (before ++ (Some own ∷ places))) ≡ stated (before ++ (Some own ∷ places))
  unfolding with_taken is_stated stated
  stays before own places key same =
      ap (λ b. cond (stays_behind marked key || b) (stated (before ++ (Some own ∷ places))) (set_key rank key (stated (before ++ (Some own ∷ places))))) there
      ∙ any (stays_behind marked key)
    where
      there : list_any (λ other. nat_eq (rank other) (rank key)) (stated (before ++ (Some own ∷ places))) ≡ true
      there =
          ap (list_any (λ other. nat_eq (rank other) (rank key))) (stated-append before (Some own ∷ places))
          ∙ list_any-append (λ other. nat_eq (rank other) (rank key)) (stated before) (own ∷ stated places)
          ∙ or_right (list_any (λ other. nat_eq (rank other) (rank key)) (stated before)) (nat_eq (rank own) (rank key) || list_any (λ other. nat_eq (rank other) (rank key)) (stated places)) (ap (λ b. b || list_any (λ other. nat_eq (rank other) (rank key)) (stated places)) (eq-eqb (rank own) (rank key) same))

      any : (b : Bool) → cond (b || true) (stated (before ++ (Some own ∷ places))) (set_key rank key (stated (before ++ (Some own ∷ places)))) ≡ stated (before ++ (Some own ∷ places))
      any true = refl
      any false = refl

  -- what isn't stated is taken, unless it stays behind
  comes : (before places : List (Option Key)) (key : Key) → IsPlaced rank 0 before → IsPlaced rank (length before + 1) places → rank key ≡ length before → with_taken marked key (stated (before ++ (None ∷ places))) ≡ stated (before ++ (picked marked None (Some key) ∷ places))
  unfolding with_taken is_stated stated IsPlaced
  comes before places key placed rest at =
      ap (λ b. cond (stays_behind marked key || b) (stated (before ++ (None ∷ places))) (set_key rank key (stated (before ++ (None ∷ places))))) absent
      ∙ by (stays_behind marked key)
    where
      absent : list_any (λ other. nat_eq (rank other) (rank key)) (stated (before ++ (None ∷ places))) ≡ false
      absent =
          ap (list_any (λ other. nat_eq (rank other) (rank key))) (stated-append before (None ∷ places))
          ∙ list_any-append (λ other. nat_eq (rank other) (rank key)) (stated before) (stated places)
          ∙ both_false (list_any (λ other. nat_eq (rank other) (rank key)) (stated before)) (list_any (λ other. nat_eq (rank other) (rank key)) (stated places)) (none-before 0 before key placed (omega (arith, at))) (none-behind (length before + 1) places key rest (omega (arith, at)))

      whole : IsPlaced rank 0 (before ++ (None ∷ places))
      whole = placed-append 0 before (None ∷ places) placed (subst (λ n. IsPlaced rank n (None ∷ places)) (sym (zero-add (length before))) rest)

      by : (b : Bool) → cond (b || false) (stated (before ++ (None ∷ places))) (set_key rank key (stated (before ++ (None ∷ places)))) ≡ stated (before ++ (cond b None (Some key) ∷ places))
      by true = refl
      by false =
          sym (stated-set rank 0 key (before ++ (None ∷ places)) (length before) whole (omega (arith, length-append before (None ∷ places))) (at ∙ sym (zero-add (length before))))
          ∙ ap stated (set-seam before None (Some key) places)

  by-places : (before own source : List (Option Key)) → IsPlaced rank 0 before → IsPlaced rank (length before) own → IsPlaced rank (length before) source → length own ≡ length source → stated (before ++ picked_all marked own source) ≡ taken marked (stated (before ++ own)) (stated source)
  unfolding picked_all taken stated IsPlaced
  by-places before [] [] b o s long = refl
  by-places before [] (place ∷ source) b o s long = absurd (omega (arith, long))
  by-places before (own ∷ places) [] b o s long = absurd (omega (arith, long))
  by-places before (Some own ∷ places) (Some key ∷ source) b o s long =
      on before (Some own) (picked_all marked places source) places (taken marked) (stated source)
      (by-places (before ++ Some own ∷ []) places source (placed-append 0 before (Some own ∷ []) b (subst (λ n. IsPlaced rank n (Some own ∷ [])) (sym (zero-add (length before))) (o.0, tt))) (subst (λ n. IsPlaced rank n places) (sym (length_push before (Some own))) o.1) (subst (λ n. IsPlaced rank n source) (sym (length_push before (Some own))) s.1) (omega (arith, long)))
      ∙ sym (ap (λ ks. taken marked ks (stated source)) (stays before own places key (o.0 ∙ sym s.0)))
    where
      on : (before : List (Option Key)) (x : Option Key) (ps qs : List (Option Key)) (t : List Key → List Key → List Key) (ks : List Key) → stated ((before ++ x ∷ []) ++ ps) ≡ t (stated ((before ++ x ∷ []) ++ qs)) ks → stated (before ++ (x ∷ ps)) ≡ t (stated (before ++ (x ∷ qs))) ks
      on before x ps qs t ks e = ap stated (sym (append_assoc before (x ∷ []) ps)) ∙ e ∙ ap (λ l. t (stated l) ks) (append_assoc before (x ∷ []) qs)
  by-places before (Some own ∷ places) (None ∷ source) b o s long =
      ap stated (sym (append_assoc before (Some own ∷ []) (picked_all marked places source)))
      ∙ by-places (before ++ Some own ∷ []) places source (placed-append 0 before (Some own ∷ []) b (subst (λ n. IsPlaced rank n (Some own ∷ [])) (sym (zero-add (length before))) (o.0, tt))) (subst (λ n. IsPlaced rank n places) (sym (length_push before (Some own))) o.1) (subst (λ n. IsPlaced rank n source) (sym (length_push before (Some own))) s) (omega (arith, long))
      ∙ ap (λ l. taken marked (stated l) (stated source)) (append_assoc before (Some own ∷ []) places)
  by-places before (None ∷ places) (None ∷ source) b o s long =
      ap stated (sym (append_assoc before (None ∷ []) (picked_all marked places source)))
      ∙ by-places (before ++ None ∷ []) places source (placed-append 0 before (None ∷ []) b tt) (subst (λ n. IsPlaced rank n places) (sym (length_push before None)) o) (subst (λ n. IsPlaced rank n source) (sym (length_push before None)) s) (omega (arith, long))
      ∙ ap (λ l. taken marked (stated l) (stated source)) (append_assoc before (None ∷ []) places)
  by-places before (None ∷ places) (Some key ∷ source) b o s long =
      ap stated (sym (append_assoc before (now ∷ []) (picked_all marked places source)))
      ∙ by-places (before ++ now ∷ []) places source (placed-append 0 before (now ∷ []) b (subst (λ n. IsPlaced rank n (now ∷ [])) (sym (zero-add (length before))) (one (stays_behind marked key)))) (subst (λ n. IsPlaced rank n places) (sym (length_push before now)) o) (subst (λ n. IsPlaced rank n source) (sym (length_push before now)) s.1) (omega (arith, long))
      ∙ ap (λ l. taken marked (stated l) (stated source)) (append_assoc before (now ∷ []) places)
      ∙ sym (ap (λ ks. taken marked ks (stated source)) (comes before places key b o s.0))
    where
      now : Option Key
      now = picked marked None (Some key)

      one : (behind : Bool) → IsPlaced rank (length before) (cond behind None (Some key) ∷ [])
      one true = tt
      one false = (s.0, tt)

pub takes_by_places : TakesByPlaces
unfolding IsPlaced
takes_by_places marked own source placed from long = by-places marked [] own source tt placed from long
