-- Merged children are those of both, but for those of the source that are replaced.
use Rattle.std.specs.Prelude.{⊤}
use Rattle.std.proofs.Common.{◌≡◌, ◌⊎◌, inl, inr, ℕ, ◌+◌, ◌≤◌, Bool, true, false, not, ◌&&◌, ◌||◌, cond, nat_eq, List, [], ◌∷◌, ◌++◌, map, filter, Option, None, Some, refl, sym, ap, ap₂, ◌∙◌, subst, arith, append_assoc, append-nil}
use Rattle.std.specs.List.{AllByRecursion, IsDistinct, list_any}
use Rattle.std.specs.List.Sorted.{IsPermutation}
use Rattle.std.specs.Cmp.Lexicographic.{bytes_decides}
use Rattle.std.specs.Str.{bytes_eq}
use Rattle.std.proofs.lemmas.Bool.{cases_Bool, ne_eqb, true≢false}
use Rattle.std.proofs.lemmas.List.{map-append}
use Rattle.std.proofs.lemmas.List.Folds.{list_any-append}
use Rattle.std.proofs.lemmas.List.Sorted.{IsPermutation-refl, IsPermutation-sym, IsPermutation-trans, IsPermutation-cons, IsPermutation-append_right, IsPermutation-middle, IsPermutation-map}
use Rattle.std.proofs.lemmas.Map.Keys.{IsDistinct-IsPermutation}
use Rattle.derived_rows.specs.Merging.{has_same_name, has_named, replaced_by, kept, added, merged, renumbered, children_by}
use Rattle.need_order.proofs.Numbers.{or_none, both_false}
use Rattle.svd_model.specs.Steps.{Step, Kind, peripheral, cluster, register, field, set, value, same_kind, same_step}
use Rattle.svd_model.proofs.Steps.{same_step-tells}

or_false : (b : Bool) → (b || false) ≡ b
or_false true = refl
or_false false = refl

or_true : (b : Bool) → (b || true) ≡ true
or_true true = refl
or_true false = refl

and_false : (b : Bool) → (b && false) ≡ false
and_false true = refl
and_false false = refl

module _ {X : Type 0} where
  -- ---- names

  named-push : (before : List (Step × X)) (c o : Step × X) → has_named (before ++ c ∷ []) o ≡ (has_named before o || bytes_eq o.0.name c.0.name)
  unfolding has_named
  named-push before c o = list_any-append (has_same_name o) before (c ∷ []) ∙ ap (λ b. has_named before o || b) (or_false (bytes_eq o.0.name c.0.name))

  named-like : (xs : List (Step × X)) (o c : Step × X) → o.0.name ≡ c.0.name → has_named xs o ≡ has_named xs c
  unfolding has_named
  named-like xs o c same = ap (λ n. list_any (λ (x : Step × X). bytes_eq n x.0.name) xs) same

  turned : (c o : Step × X) → bytes_eq c.0.name o.0.name ≡ false → bytes_eq o.0.name c.0.name ≡ false
  turned c o e = elim (cases_Bool (bytes_eq o.0.name c.0.name)) [
    | inl p ↦ absurd (true≢false (sym ((bytes_decides c.0.name o.0.name).1 (sym ((bytes_decides o.0.name c.0.name).0 p))) ∙ e))
    | inr q ↦ q
  ]

  -- ---- the own children that are added

  -- an own child is left out, because it stands among the source's
  abbrev is_left_out : List (Step × X) → List (Step × X) → (Step × X) → Bool
  is_left_out pre source o = has_named source o && not (has_named pre o)

  abbrev Settles : List (Step × X) → List (Step × X) → List (Step × X) → (Step × X) → Type 0
  Settles pre source own c = (has_named source c ≡ true) ⊎ ((has_named pre c ≡ true) ⊎ (has_named own c ≡ false))

  added-more : (pre source own : List (Step × X)) (c : Step × X) → Settles pre source own c → added pre source own ≡ added pre (source ++ c ∷ []) own
  unfolding added has_named
  added-more pre source [] c h = refl
  added-more pre source (o ∷ own) c h =
      ap₂ (λ b rest. cond b [] (o ∷ []) ++ rest) (here h) (added-more (pre ++ o ∷ []) source own c (further h))
    where
      further : Settles pre source (o ∷ own) c → Settles (pre ++ o ∷ []) source own c
      further (inl p) = inl p
      further (inr (inl p)) = inr (inl (named-push pre o c ∙ ap (λ b. b || bytes_eq c.0.name o.0.name) p))
      further (inr (inr p)) = inr (inr (or_none (bytes_eq c.0.name o.0.name) (has_named own c) p).1)

      apart : bytes_eq o.0.name c.0.name ≡ false → is_left_out pre source o ≡ is_left_out pre (source ++ c ∷ []) o
      apart e = ap (λ b. b && not (has_named pre o)) (sym (named-push source c o ∙ ap (λ b. has_named source o || b) e ∙ or_false (has_named source o)))

      here : Settles pre source (o ∷ own) c → is_left_out pre source o ≡ is_left_out pre (source ++ c ∷ []) o
      here h = elim (cases_Bool (bytes_eq o.0.name c.0.name)) [ inr q ↦ apart q | inl p ↦ same p h ]
        where
          same : bytes_eq o.0.name c.0.name ≡ true → Settles pre source (o ∷ own) c → is_left_out pre source o ≡ is_left_out pre (source ++ c ∷ []) o
          same p (inl there) =
              let o_there : has_named source o ≡ true = named-like source o c ((bytes_decides o.0.name c.0.name).0 p) ∙ there in
              ap (λ b. b && not (has_named pre o)) (o_there ∙ sym (named-push source c o ∙ ap (λ b. b || bytes_eq o.0.name c.0.name) o_there))
          same p (inr (inl there)) =
              let o_there : has_named pre o ≡ true = named-like pre o c ((bytes_decides o.0.name c.0.name).0 p) ∙ there in
              ap (λ b. has_named source o && not b) o_there ∙ and_false (has_named source o)
              ∙ sym (ap (λ b. has_named (source ++ c ∷ []) o && not b) o_there ∙ and_false (has_named (source ++ c ∷ []) o))
          same p (inr (inr none)) =
              absurd (true≢false (sym ((bytes_decides c.0.name o.0.name).1 (sym ((bytes_decides o.0.name c.0.name).0 p))) ∙ (or_none (bytes_eq c.0.name o.0.name) (has_named own c) none).0))

  added-none : (pre own : List (Step × X)) → added pre [] own ≡ own
  unfolding added has_named
  added-none pre [] = refl
  added-none pre (o ∷ own) = ap (λ rest. o ∷ rest) (added-none (pre ++ o ∷ []) own)

  -- the first of a name goes where its name comes among the source's
  added-first : (pre source own : List (Step × X)) (c : Step × X) → has_named source c ≡ false → has_named pre c ≡ false → has_named own c ≡ true → IsPermutation (added pre source own) (replaced_by own c ∷ added pre (source ++ c ∷ []) own)
  unfolding added replaced_by has_named
  added-first pre source [] c fresh new there = absurd (true≢false (sym there))
  added-first pre source (o ∷ own) c fresh new there = elim (cases_Bool (bytes_eq c.0.name o.0.name)) [ inl p ↦ first p | inr q ↦ other (λ new there. added-first (pre ++ o ∷ []) source own c fresh new there) q ]
    where
      after : List (Step × X)
      after = source ++ c ∷ []

      goal : Bool → Bool → Bool → Type 0
      goal a b d = IsPermutation (cond a [] (o ∷ []) ++ added (pre ++ o ∷ []) source own) (cond d o (replaced_by own c) ∷ (cond b [] (o ∷ []) ++ added (pre ++ o ∷ []) after own))

      closed : (a b d : Bool) → is_left_out pre source o ≡ a → is_left_out pre after o ≡ b → bytes_eq c.0.name o.0.name ≡ d → goal a b d → goal (is_left_out pre source o) (is_left_out pre after o) (bytes_eq c.0.name o.0.name)
      closed a b d e f g h = subst (λ x. goal x (is_left_out pre after o) (bytes_eq c.0.name o.0.name)) (sym e) (subst (λ x. goal a x (bytes_eq c.0.name o.0.name)) (sym f) (subst (goal a b) (sym g) h))

      first : bytes_eq c.0.name o.0.name ≡ true → goal (is_left_out pre source o) (is_left_out pre after o) (bytes_eq c.0.name o.0.name)
      first p =
          let same : o.0.name ≡ c.0.name = sym ((bytes_decides c.0.name o.0.name).0 p) in
          let back : bytes_eq o.0.name c.0.name ≡ true = (bytes_decides o.0.name c.0.name).1 same in
          closed false true true
          (ap (λ b. b && not (has_named pre o)) (named-like source o c same ∙ fresh))
          (ap₂ (λ x y. x && not y) (named-push source c o ∙ ap (λ b. has_named source o || b) back ∙ or_true (has_named source o)) (named-like pre o c same ∙ new))
          p
          (subst (λ rest. IsPermutation (o ∷ added (pre ++ o ∷ []) source own) (o ∷ rest))
          (added-more (pre ++ o ∷ []) source own c (inr (inl (named-push pre o c ∙ ap (λ b. has_named pre c || b) p ∙ or_true (has_named pre c)))))
          (IsPermutation-refl (o ∷ added (pre ++ o ∷ []) source own)))

      other : (has_named (pre ++ o ∷ []) c ≡ false → has_named own c ≡ true → IsPermutation (added (pre ++ o ∷ []) source own) (replaced_by own c ∷ added (pre ++ o ∷ []) after own)) → bytes_eq c.0.name o.0.name ≡ false → goal (is_left_out pre source o) (is_left_out pre after o) (bytes_eq c.0.name o.0.name)
      other further q =
          let same_out : is_left_out pre after o ≡ is_left_out pre source o = ap (λ b. b && not (has_named pre o)) (named-push source c o ∙ ap (λ b. has_named source o || b) (turned c o q) ∙ or_false (has_named source o)) in
          let again = further (named-push pre o c ∙ both_false (has_named pre c) (bytes_eq c.0.name o.0.name) new q) (sym (ap (λ b. b || has_named own c) q) ∙ there) in
          closed (is_left_out pre source o) (is_left_out pre source o) false refl same_out q
          (IsPermutation-trans _ _ _
          (IsPermutation-append_right (cond (is_left_out pre source o) [] (o ∷ [])) _ _ again)
          (IsPermutation-middle (cond (is_left_out pre source o) [] (o ∷ [])) (replaced_by own c) (added (pre ++ o ∷ []) after own)))

  -- ---- the source's children that stay

  stays-itself : (own : List (Step × X)) (c : Step × X) → has_named own c ≡ false → replaced_by own c ≡ c
  unfolding replaced_by has_named
  stays-itself [] c none = refl
  stays-itself (o ∷ own) c none =
      let parts = or_none (bytes_eq c.0.name o.0.name) (has_named own c) none in
      ap (λ b. cond b o (replaced_by own c)) parts.0 ∙ stays-itself own c parts.1

  abbrev pub is_kept : List (Step × X) → (Step × X) → Bool
  is_kept own c = not (has_named own c)

  none-named : (c : Step × X) → has_named [] c ≡ false
  unfolding has_named
  none-named c = refl

  kept-added : (before source own : List (Step × X)) → IsPermutation (kept before source own ++ added [] (before ++ source) own) (filter (is_kept own) source ++ added [] before own)
  unfolding kept
  kept-added before [] own = subst (λ all. IsPermutation (added [] (before ++ []) own) (added [] all own)) (append-nil before) (IsPermutation-refl (added [] (before ++ []) own))
  kept-added before (c ∷ source) own =
      subst (λ all. IsPermutation ((cond (has_named own c && has_named before c) [] (replaced_by own c ∷ []) ++ kept (before ++ c ∷ []) source own) ++ added [] all own) (filter (is_kept own) (c ∷ source) ++ added [] before own))
      (append_assoc before (c ∷ []) source)
      (by (kept-added (before ++ c ∷ []) source own) (has_named own c) (has_named before c) refl refl)
    where
      K : List (Step × X)
      K = kept (before ++ c ∷ []) source own

      A : List (Step × X)
      A = added [] ((before ++ c ∷ []) ++ source) own

      F : List (Step × X)
      F = filter (is_kept own) source

      by : IsPermutation (K ++ A) (F ++ added [] (before ++ c ∷ []) own) → (a b : Bool) → has_named own c ≡ a → has_named before c ≡ b → IsPermutation ((cond (a && b) [] (replaced_by own c ∷ []) ++ K) ++ A) (cond (not a) (c ∷ F) F ++ added [] before own)
      by again false b e f =
          subst (λ r. IsPermutation (r ∷ (K ++ A)) (c ∷ (F ++ added [] before own))) (sym (stays-itself own c e))
          (IsPermutation-cons c _ _ (subst (λ rest. IsPermutation (K ++ A) (F ++ rest)) (sym (added-more [] before own c (inr (inr e)))) again))
      by again true true e f =
          subst (λ rest. IsPermutation (K ++ A) (F ++ rest)) (sym (added-more [] before own c (inl f))) again
      by again true false e f =
          IsPermutation-trans _ _ _ (IsPermutation-cons (replaced_by own c) _ _ again)
          (IsPermutation-trans _ _ _ (IsPermutation-sym _ _ (IsPermutation-middle F (replaced_by own c) (added [] (before ++ c ∷ []) own)))
          (IsPermutation-append_right F _ _ (IsPermutation-sym _ _ (added-first [] before own c f (none-named c) e))))

  pub merged_shuffled : (source own : List (Step × X)) → IsPermutation (merged source own) (filter (is_kept own) source ++ own)
  unfolding merged
  merged_shuffled source own = subst (λ rest. IsPermutation (kept [] source own ++ added [] source own) (filter (is_kept own) source ++ rest)) (added-none [] own) (kept-added [] source own)

  -- ---- by the kind of the element

  abbrev pub second : (Step × X) → X
  second child = child.1

  renumbered-second : (n : ℕ) (xs : List (Step × X)) → map second (renumbered n xs) ≡ map second xs
  unfolding renumbered
  renumbered-second n [] = refl
  renumbered-second n (x ∷ xs) = ap (λ rest. x.1 ∷ rest) (renumbered-second (n + 1) xs)

  merged-seconds : (source own : List (Step × X)) → IsPermutation (map second (merged source own)) (map second (filter (is_kept own) source) ++ map second own)
  merged-seconds source own = subst (IsPermutation (map second (merged source own))) (map-append second (filter (is_kept own) source) own) (IsPermutation-map second _ _ (merged_shuffled source own))

  -- the children of an element of this kind, and of its source, are merged
  abbrev pub IsMerged : Option Kind → List (Step × X) → Type 0
  IsMerged (Some field) (first ∷ others) = ⊥
  IsMerged kind own = ⊤

  all_kept : (source : List (Step × X)) → filter (is_kept []) source ≡ source
  unfolding has_named
  all_kept [] = refl
  all_kept (c ∷ source) = ap (λ rest. c ∷ rest) (all_kept source)

  pub shuffled_by : (kind : Option Kind) (source own : List (Step × X)) → IsMerged kind own → IsPermutation (map second (children_by kind source own)) (map second (filter (is_kept own) source) ++ map second own)
  shuffled_by None source own h = merged-seconds source own
  shuffled_by (Some peripheral) source own h = merged-seconds source own
  shuffled_by (Some cluster) source own h = merged-seconds source own
  shuffled_by (Some register) source own h = merged-seconds source own
  shuffled_by (Some field) source [] h = subst (IsPermutation (map second source)) (ap (map second) (sym (all_kept source)) ∙ sym (append-nil (map second (filter (is_kept []) source)))) (IsPermutation-refl (map second source))
  shuffled_by (Some field) source (first ∷ others) h = absurd h
  shuffled_by (Some set) source own h = subst (λ l. IsPermutation l (map second (filter (is_kept own) source) ++ map second own)) (sym (renumbered-second 0 (merged source own))) (merged-seconds source own)
  shuffled_by (Some value) source own h = merged-seconds source own

  -- ---- no two children have one step

  abbrev pub same_place : (Step × X) → (Step × X) → Bool
  same_place x y = same_step x.0 y.0

  abbrev pub Apart : List (Step × X) → Type 0
  Apart xs = IsDistinct same_place xs

  flips : (x y : Step × X) → same_place x y ≡ same_place y x
  flips x y = both (same_place x y) (same_place y x) (one x.0 y.0) (one y.0 x.0)
    where
      one : (s t : Step) → same_step s t ≡ true → same_step t s ≡ true
      one s t e = subst (λ z. same_step z s ≡ true) (same_step-tells.alone s t e) (same_step-tells.itself s)

      both : (a b : Bool) → (a ≡ true → b ≡ true) → (b ≡ true → a ≡ true) → a ≡ b
      both true b f g = sym (f refl)
      both false true f g = g refl
      both false false f g = refl

  each_filtered : (P : (Step × X) → Type 0) (test : (Step × X) → Bool) (xs : List (Step × X)) → AllByRecursion P xs → AllByRecursion P (filter test xs)
  each_filtered P test [] h = tt
  each_filtered P test (x ∷ xs) h = by (test x) (each_filtered P test xs h.1)
    where
      by : (b : Bool) → AllByRecursion P (filter test xs) → AllByRecursion P (cond b (x ∷ filter test xs) (filter test xs))
      by true rest = (h.0, rest)
      by false rest = rest

  apart_filtered : (test : (Step × X) → Bool) (xs : List (Step × X)) → Apart xs → Apart (filter test xs)
  unfolding IsDistinct
  apart_filtered test [] h = tt
  apart_filtered test (x ∷ xs) h = by (test x) (apart_filtered test xs h.1)
    where
      by : (b : Bool) → Apart (filter test xs) → Apart (cond b (x ∷ filter test xs) (filter test xs))
      by true rest = (each_filtered (λ y. same_place x y ≡ false) test xs h.0, rest)
      by false rest = rest

  each_append : (P : (Step × X) → Type 0) (xs ys : List (Step × X)) → AllByRecursion P xs → AllByRecursion P ys → AllByRecursion P (xs ++ ys)
  each_append P [] ys h k = k
  each_append P (x ∷ xs) ys h k = (h.0, each_append P xs ys h.1 k)

  -- one whose name isn't there is none of them
  unlike : (own : List (Step × X)) (c : Step × X) → has_named own c ≡ false → AllByRecursion (λ y. same_place c y ≡ false) own
  unfolding has_named same_step
  unlike [] c none = tt
  unlike (o ∷ own) c none =
      let parts = or_none (bytes_eq c.0.name o.0.name) (has_named own c) none in
      (apart parts.0, unlike own c parts.1)
    where
      apart : bytes_eq c.0.name o.0.name ≡ false → same_step c.0 o.0 ≡ false
      apart e = ap (λ b. same_kind c.0.kind o.0.kind && (b && nat_eq c.0.number o.0.number)) e ∙ and_false (same_kind c.0.kind o.0.kind)

  apart_both : (own source : List (Step × X)) → Apart source → Apart own → Apart (filter (is_kept own) source ++ own)
  unfolding IsDistinct
  apart_both own [] h k = k
  apart_both own (c ∷ source) h k = by (has_named own c) refl (apart_both own source h.1 k)
    where
      by : (b : Bool) → has_named own c ≡ b → Apart (filter (is_kept own) source ++ own) → Apart (cond (not b) (c ∷ filter (is_kept own) source) (filter (is_kept own) source) ++ own)
      by true e rest = rest
      by false e rest = (each_append (λ y. same_place c y ≡ false) (filter (is_kept own) source) own (each_filtered (λ y. same_place c y ≡ false) (is_kept own) source h.0) (unlike own c e), rest)

  merged-apart : (source own : List (Step × X)) → Apart source → Apart own → Apart (merged source own)
  merged-apart source own h k = IsDistinct-IsPermutation same_place flips (filter (is_kept own) source ++ own) (merged source own) (IsPermutation-sym _ _ (merged_shuffled source own)) (apart_both own source h k)

  renumbered-later : (s : Step) (n : ℕ) (xs : List (Step × X)) (x : X) → s.number + 1 ≤ n → AllByRecursion (λ y. same_place (s, x) y ≡ false) (renumbered n xs)
  unfolding renumbered same_step
  renumbered-later s n [] x h = tt
  renumbered-later s n (y ∷ ys) x h = (apart, renumbered-later s (n + 1) ys x (omega (arith, h)))
    where
      apart : same_step s (record { kind = y.0.kind; name = y.0.name; number = n }) ≡ false
      apart =
          ap (λ b. same_kind s.kind y.0.kind && (bytes_eq s.name y.0.name && b)) (ne_eqb s.number n (λ e. absurd (omega (arith, h, e))))
          ∙ ap (λ b. same_kind s.kind y.0.kind && b) (and_false (bytes_eq s.name y.0.name)) ∙ and_false (same_kind s.kind y.0.kind)

  renumbered-apart : (n : ℕ) (xs : List (Step × X)) → Apart (renumbered n xs)
  unfolding renumbered IsDistinct
  renumbered-apart n [] = tt
  renumbered-apart n (x ∷ xs) = (renumbered-later (record { kind = x.0.kind; name = x.0.name; number = n }) (n + 1) xs x.1 (omega arith), renumbered-apart (n + 1) xs)

  pub apart_by : (kind : Option Kind) (source own : List (Step × X)) → Apart source → Apart own → Apart (children_by kind source own)
  apart_by None source own h k = merged-apart source own h k
  apart_by (Some peripheral) source own h k = merged-apart source own h k
  apart_by (Some cluster) source own h k = merged-apart source own h k
  apart_by (Some register) source own h k = merged-apart source own h k
  apart_by (Some field) source [] h k = h
  apart_by (Some field) source (first ∷ others) h k = k
  apart_by (Some set) source own h k = renumbered-apart 0 (merged source own)
  apart_by (Some value) source own h k = merged-apart source own h k
