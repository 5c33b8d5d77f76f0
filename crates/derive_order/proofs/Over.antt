-- Merging looks at steps alone: what stands under them may be exchanged.
use Rattle.std.proofs.Common.{◌≡◌, ℕ, ◌+◌, Bool, true, false, not, ◌&&◌, ◌||◌, cond, List, [], ◌∷◌, ◌++◌, map, Option, None, Some, refl, sym, ap, ap₂, ◌∙◌}
use Rattle.std.specs.Str.{bytes_eq}
use Rattle.std.proofs.lemmas.List.{map-append}
use Rattle.derived_rows.specs.Merging.{has_named, replaced_by, kept, added, merged, renumbered, children_by}
use Rattle.svd_model.specs.Steps.{Step, Kind, peripheral, cluster, register, field, set, value}

module _ {X Y : Type 0} (f : X → Y) where
  -- the child with something else under its step
  abbrev pub over : (Step × X) → (Step × Y)
  over child = (child.0, f child.1)

  named-over : (xs : List (Step × X)) (c : Step × X) → has_named (map over xs) (over c) ≡ has_named xs c
  unfolding has_named
  named-over [] c = refl
  named-over (x ∷ xs) c = ap (λ b. bytes_eq c.0.name x.0.name || b) (named-over xs c)

  replaced-over : (own : List (Step × X)) (c : Step × X) → replaced_by (map over own) (over c) ≡ over (replaced_by own c)
  unfolding replaced_by
  replaced-over [] c = refl
  replaced-over (o ∷ own) c = at (bytes_eq c.0.name o.0.name) (replaced-over own c)
    where
      at : (b : Bool) → replaced_by (map over own) (over c) ≡ over (replaced_by own c) → cond b (over o) (replaced_by (map over own) (over c)) ≡ over (cond b o (replaced_by own c))
      at true e = refl
      at false e = e

  cond-over : (b : Bool) (c : Step × X) → cond b [] (over c ∷ []) ≡ map over (cond b [] (c ∷ []))
  cond-over true c = refl
  cond-over false c = refl

  kept-over : (before source own : List (Step × X)) → kept (map over before) (map over source) (map over own) ≡ map over (kept before source own)
  unfolding kept
  kept-over before [] own = refl
  kept-over before (c ∷ source) own =
      ap₂ (λ b (r : Step × Y). cond b [] (r ∷ []) ++ kept (map over before ++ over c ∷ []) (map over source) (map over own))
      (ap₂ (λ a b. a && b) (named-over own c) (named-over before c)) (replaced-over own c)
      ∙ ap₂ (λ first rest. first ++ rest)
      (cond-over (has_named own c && has_named before c) (replaced_by own c))
      (ap (λ passed. kept passed (map over source) (map over own)) (sym (map-append over before (c ∷ []))) ∙ kept-over (before ++ c ∷ []) source own)
      ∙ sym (map-append over (cond (has_named own c && has_named before c) [] (replaced_by own c ∷ [])) (kept (before ++ c ∷ []) source own))

  added-over : (before source own : List (Step × X)) → added (map over before) (map over source) (map over own) ≡ map over (added before source own)
  unfolding added
  added-over before source [] = refl
  added-over before source (c ∷ own) =
      ap (λ b. cond b [] (over c ∷ []) ++ added (map over before ++ over c ∷ []) (map over source) (map over own))
      (ap₂ (λ a b. a && not b) (named-over source c) (named-over before c))
      ∙ ap₂ (λ first rest. first ++ rest)
      (cond-over (has_named source c && not (has_named before c)) c)
      (ap (λ passed. added passed (map over source) (map over own)) (sym (map-append over before (c ∷ []))) ∙ added-over (before ++ c ∷ []) source own)
      ∙ sym (map-append over (cond (has_named source c && not (has_named before c)) [] (c ∷ [])) (added (before ++ c ∷ []) source own))

  merged-over : (source own : List (Step × X)) → merged (map over source) (map over own) ≡ map over (merged source own)
  unfolding merged
  merged-over source own =
      ap₂ (λ a b. a ++ b) (kept-over [] source own) (added-over [] source own)
      ∙ sym (map-append over (kept [] source own) (added [] source own))

  renumbered-over : (n : ℕ) (xs : List (Step × X)) → renumbered n (map over xs) ≡ map over (renumbered n xs)
  unfolding renumbered
  renumbered-over n [] = refl
  renumbered-over n (x ∷ xs) = ap (λ rest. (record { kind = x.0.kind; name = x.0.name; number = n }, f x.1) ∷ rest) (renumbered-over (n + 1) xs)

  pub children_over : (kind : Option Kind) (source own : List (Step × X)) → children_by kind (map over source) (map over own) ≡ map over (children_by kind source own)
  children_over None source own = merged-over source own
  children_over (Some peripheral) source own = merged-over source own
  children_over (Some cluster) source own = merged-over source own
  children_over (Some register) source own = merged-over source own
  children_over (Some field) source [] = refl
  children_over (Some field) source (first ∷ others) = refl
  children_over (Some set) source own = ap (renumbered 0) (merged-over source own) ∙ renumbered-over 0 (merged source own)
  children_over (Some value) source own = merged-over source own
