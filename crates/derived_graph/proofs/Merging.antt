-- What is merged doesn't look at what stands under the steps.
use Rattle.std.proofs.Common.{◌≡◌, ℕ, ◌+◌, Bool, true, false, cond, not, ◌&&◌, ◌||◌, List, [], ◌∷◌, ◌++◌, map, Option, None, Some, refl, sym, ap, ap₂, ◌∙◌}
use Rattle.std.specs.List.{AllByRecursion}
use Rattle.std.specs.Str.{bytes_eq}
use Rattle.std.proofs.lemmas.List.{map-append}
use Rattle.derived_rows.specs.Merging.{has_named, replaced_by, kept, added, merged, renumbered, sets_of, children_by}
use Rattle.svd_model.specs.Steps.{Step, Kind, peripheral, cluster, register, field, set, value}

module _ {X Y : Type 0} (f : X → Y) where
  abbrev over : (Step × X) → (Step × Y)
  over child = (child.0, f child.1)

  replaced-over : (own : List (Step × X)) (child : Step × X) → replaced_by (map over own) (over child) ≡ over (replaced_by own child)
  unfolding replaced_by
  replaced-over [] child = refl
  replaced-over (first ∷ own) child = cases (bytes_eq child.0.name first.0.name) (replaced-over own child)
    where
      cases : (b : Bool) → replaced_by (map over own) (over child) ≡ over (replaced_by own child) → cond b (over first) (replaced_by (map over own) (over child)) ≡ over (cond b first (replaced_by own child))
      cases true e = refl
      cases false e = e

  named-over : (children : List (Step × X)) (child : Step × X) → has_named (map over children) (over child) ≡ has_named children child
  unfolding has_named
  named-over [] child = refl
  named-over (first ∷ children) child = ap (λ b. bytes_eq child.0.name first.0.name || b) (named-over children child)

  one-over : (b : Bool) (child : Step × X) (rest : List (Step × X)) → cond b [] (over child ∷ []) ++ map over rest ≡ map over (cond b [] (child ∷ []) ++ rest)
  one-over true child rest = refl
  one-over false child rest = refl

  kept-over : (before source own : List (Step × X)) → kept (map over before) (map over source) (map over own) ≡ map over (kept before source own)
  unfolding kept
  kept-over before [] own = refl
  kept-over before (child ∷ source) own =
      ap₂ (λ (b : Bool) (first : Step × Y). cond b [] (first ∷ []) ++ kept (map over before ++ over child ∷ []) (map over source) (map over own))
      (ap₂ (λ a b. a && b) (named-over own child) (named-over before child)) (replaced-over own child)
      ∙ ap (λ r. cond (has_named own child && has_named before child) [] (over (replaced_by own child) ∷ []) ++ r)
      (ap (λ passed. kept passed (map over source) (map over own)) (sym (map-append over before (child ∷ []))) ∙ kept-over (before ++ child ∷ []) source own)
      ∙ one-over (has_named own child && has_named before child) (replaced_by own child) (kept (before ++ child ∷ []) source own)

  added-over : (before source own : List (Step × X)) → added (map over before) (map over source) (map over own) ≡ map over (added before source own)
  unfolding added
  added-over before source [] = refl
  added-over before source (child ∷ own) =
      ap (λ (b : Bool). cond b [] (over child ∷ []) ++ added (map over before ++ over child ∷ []) (map over source) (map over own))
      (ap₂ (λ a b. a && not b) (named-over source child) (named-over before child))
      ∙ ap (λ r. cond (has_named source child && not (has_named before child)) [] (over child ∷ []) ++ r)
      (ap (λ passed. added passed (map over source) (map over own)) (sym (map-append over before (child ∷ []))) ∙ added-over (before ++ child ∷ []) source own)
      ∙ one-over (has_named source child && not (has_named before child)) child (added (before ++ child ∷ []) source own)

  merged-over : (source own : List (Step × X)) → merged (map over source) (map over own) ≡ map over (merged source own)
  unfolding merged
  merged-over source own =
      ap₂ (λ a b. a ++ b) (kept-over [] source own) (added-over [] source own)
      ∙ sym (map-append over (kept [] source own) (added [] source own))

  renumbered-over : (n : ℕ) (children : List (Step × X)) → renumbered n (map over children) ≡ map over (renumbered n children)
  unfolding renumbered
  renumbered-over n [] = refl
  renumbered-over n (child ∷ children) = ap (λ r. (record { kind = child.0.kind; name = child.0.name; number = n }, f child.1) ∷ r) (renumbered-over (n + 1) children)

  sets-over : (source own : List (Step × X)) → sets_of (map over source) (map over own) ≡ map over (sets_of source own)
  sets-over source [] = refl
  sets-over source (first ∷ others) = refl

  pub children-over : (kind : Option Kind) (source own : List (Step × X)) → children_by kind (map over source) (map over own) ≡ map over (children_by kind source own)
  children-over None source own = merged-over source own
  children-over (Some peripheral) source own = merged-over source own
  children-over (Some cluster) source own = merged-over source own
  children-over (Some register) source own = merged-over source own
  children-over (Some field) source own = sets-over source own
  children-over (Some set) source own = ap (renumbered 0) (merged-over source own) ∙ renumbered-over 0 (merged source own)
  children-over (Some value) source own = merged-over source own

-- ---- what holds of all children

module _ {X : Type 0} (P : (Step × X) → Type 0) where
  pub each-append : (xs ys : List (Step × X)) → AllByRecursion P xs → AllByRecursion P ys → AllByRecursion P (xs ++ ys)
  each-append [] ys h k = k
  each-append (x ∷ xs) ys h k = (h.0, each-append xs ys h.1 k)

  each-replaced : (own : List (Step × X)) (child : Step × X) → AllByRecursion P own → P child → P (replaced_by own child)
  unfolding replaced_by
  each-replaced [] child h p = p
  each-replaced (first ∷ own) child h p = cases (bytes_eq child.0.name first.0.name) (each-replaced own child h.1 p)
    where
      cases : (b : Bool) → P (replaced_by own child) → P (cond b first (replaced_by own child))
      cases true q = h.0
      cases false q = q

  each-one : (b : Bool) (child : Step × X) → P child → AllByRecursion P (cond b [] (child ∷ []))
  each-one true child p = tt
  each-one false child p = (p, tt)

  each-kept : (before source own : List (Step × X)) → AllByRecursion P source → AllByRecursion P own → AllByRecursion P (kept before source own)
  unfolding kept
  each-kept before [] own h k = tt
  each-kept before (child ∷ source) own h k =
      each-append (cond (has_named own child && has_named before child) [] (replaced_by own child ∷ [])) (kept (before ++ child ∷ []) source own)
      (each-one (has_named own child && has_named before child) (replaced_by own child) (each-replaced own child k h.0)) (each-kept (before ++ child ∷ []) source own h.1 k)

  each-added : (before source own : List (Step × X)) → AllByRecursion P own → AllByRecursion P (added before source own)
  unfolding added
  each-added before source [] h = tt
  each-added before source (child ∷ own) h =
      each-append (cond (has_named source child && not (has_named before child)) [] (child ∷ [])) (added (before ++ child ∷ []) source own)
      (each-one (has_named source child && not (has_named before child)) child h.0) (each-added (before ++ child ∷ []) source own h.1)

  each-merged : (source own : List (Step × X)) → AllByRecursion P source → AllByRecursion P own → AllByRecursion P (merged source own)
  unfolding merged
  each-merged source own h k = each-append (kept [] source own) (added [] source own) (each-kept [] source own h k) (each-added [] source own k)

  each-sets : (source own : List (Step × X)) → AllByRecursion P source → AllByRecursion P own → AllByRecursion P (sets_of source own)
  each-sets source [] h k = h
  each-sets source (first ∷ others) h k = k

  -- it holds whatever number a step has
  abbrev pub IsStable : Type 0
  IsStable = (n : ℕ) (child : Step × X) → P child → P (record { kind = child.0.kind; name = child.0.name; number = n }, child.1)

  pub each-renumbered : IsStable → (n : ℕ) (children : List (Step × X)) → AllByRecursion P children → AllByRecursion P (renumbered n children)
  unfolding renumbered
  each-renumbered stable n [] h = tt
  each-renumbered stable n (child ∷ children) h = (stable n child h.0, each-renumbered stable (n + 1) children h.1)

  pub each-by : (kind : Option Kind) → (kind ≡ Some set → IsStable) → (source own : List (Step × X)) → AllByRecursion P source → AllByRecursion P own → AllByRecursion P (children_by kind source own)
  each-by None stable source own h k = each-merged source own h k
  each-by (Some peripheral) stable source own h k = each-merged source own h k
  each-by (Some cluster) stable source own h k = each-merged source own h k
  each-by (Some register) stable source own h k = each-merged source own h k
  each-by (Some field) stable source own h k = each-sets source own h k
  each-by (Some set) stable source own h k = each-renumbered (stable refl) 0 (merged source own) (each-merged source own h k)
  each-by (Some value) stable source own h k = each-merged source own h k
