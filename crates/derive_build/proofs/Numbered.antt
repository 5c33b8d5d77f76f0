-- Children by their places: numbers of steps don't matter where children are merged.
use Rattle.std.proofs.Common.{◌≡◌, ℕ, ◌+◌, Bool, true, false, cond, not, ◌&&◌, ◌||◌, List, [], ◌∷◌, ◌++◌, map, Option, None, Some, refl, sym, ap, ap₂, ◌∙◌}
use Rattle.std.specs.Str.{bytes_eq}
use Rattle.std.proofs.lemmas.List.{map-append}
use Rattle.derive_build.specs.Children.{plain_by}
use Rattle.derive_build.specs.Tables.{by_place}
use Rattle.derived_graph.specs.Graphs.{Child}
use Rattle.derived_rows.specs.Merging.{has_named, replaced_by, kept, added, merged, renumbered, sets_of, children_by}
use Rattle.svd_model.specs.Steps.{Kind, peripheral, cluster, register, field, set, value}

-- a child without the number of its step
abbrev bare : Child → Child
bare child = (record { kind = child.0.kind; name = child.0.name; number = 0 }, child.1)

replaced-bare : (own : List Child) (child : Child) → replaced_by (map bare own) (bare child) ≡ bare (replaced_by own child)
unfolding replaced_by
replaced-bare [] child = refl
replaced-bare (first ∷ own) child = cases (bytes_eq child.0.name first.0.name) (replaced-bare own child)
  where
    cases : (b : Bool) → replaced_by (map bare own) (bare child) ≡ bare (replaced_by own child) → cond b (bare first) (replaced_by (map bare own) (bare child)) ≡ bare (cond b first (replaced_by own child))
    cases true e = refl
    cases false e = e

named-bare : (children : List Child) (child : Child) → has_named (map bare children) (bare child) ≡ has_named children child
unfolding has_named
named-bare [] child = refl
named-bare (first ∷ children) child = ap (λ b. bytes_eq child.0.name first.0.name || b) (named-bare children child)

one-bare : (b : Bool) (child : Child) (rest : List Child) → cond b [] (bare child ∷ []) ++ map bare rest ≡ map bare (cond b [] (child ∷ []) ++ rest)
one-bare true child rest = refl
one-bare false child rest = refl

kept-bare : (before source own : List Child) → kept (map bare before) (map bare source) (map bare own) ≡ map bare (kept before source own)
unfolding kept
kept-bare before [] own = refl
kept-bare before (child ∷ source) own =
    ap₂ (λ (b : Bool) (first : Child). cond b [] (first ∷ []) ++ kept (map bare before ++ bare child ∷ []) (map bare source) (map bare own))
    (ap₂ (λ a b. a && b) (named-bare own child) (named-bare before child)) (replaced-bare own child)
    ∙ ap (λ r. cond (has_named own child && has_named before child) [] (bare (replaced_by own child) ∷ []) ++ r)
    (ap (λ passed. kept passed (map bare source) (map bare own)) (sym (map-append bare before (child ∷ []))) ∙ kept-bare (before ++ child ∷ []) source own)
    ∙ one-bare (has_named own child && has_named before child) (replaced_by own child) (kept (before ++ child ∷ []) source own)

added-bare : (before source own : List Child) → added (map bare before) (map bare source) (map bare own) ≡ map bare (added before source own)
unfolding added
added-bare before source [] = refl
added-bare before source (child ∷ own) =
    ap (λ (b : Bool). cond b [] (bare child ∷ []) ++ added (map bare before ++ bare child ∷ []) (map bare source) (map bare own))
    (ap₂ (λ a b. a && not b) (named-bare source child) (named-bare before child))
    ∙ ap (λ r. cond (has_named source child && not (has_named before child)) [] (bare child ∷ []) ++ r)
    (ap (λ passed. added passed (map bare source) (map bare own)) (sym (map-append bare before (child ∷ []))) ∙ added-bare (before ++ child ∷ []) source own)
    ∙ one-bare (has_named source child && not (has_named before child)) child (added (before ++ child ∷ []) source own)

merged-bare : (source own : List Child) → merged (map bare source) (map bare own) ≡ map bare (merged source own)
unfolding merged
merged-bare source own =
    ap₂ (λ a b. a ++ b) (kept-bare [] source own) (added-bare [] source own)
    ∙ sym (map-append bare (kept [] source own) (added [] source own))

numbers-again : (n : ℕ) (children : List Child) → renumbered n (map bare children) ≡ renumbered n children
unfolding renumbered
numbers-again n [] = refl
numbers-again n (child ∷ children) = ap (λ r. (record { kind = child.0.kind; name = child.0.name; number = n }, child.1) ∷ r) (numbers-again (n + 1) children)

bare-again : (n : ℕ) (children : List Child) → map bare (renumbered n children) ≡ map bare children
unfolding renumbered
bare-again n [] = refl
bare-again n (child ∷ children) = ap (λ r. bare child ∷ r) (bare-again (n + 1) children)

-- those that are merged may have had numbers
merged-numbered : (source own : List Child) → renumbered 0 (merged source own) ≡ renumbered 0 (merged (renumbered 0 source) (renumbered 0 own))
merged-numbered source own =
    sym (numbers-again 0 (merged source own))
    ∙ ap (renumbered 0) (sym (merged-bare source own) ∙ sym (ap₂ merged (bare-again 0 source) (bare-again 0 own)) ∙ merged-bare (renumbered 0 source) (renumbered 0 own))
    ∙ numbers-again 0 (merged (renumbered 0 source) (renumbered 0 own))

sets-numbered : (source own : List Child) → renumbered 0 (sets_of source own) ≡ sets_of (renumbered 0 source) (renumbered 0 own)
unfolding renumbered
sets-numbered source [] = refl
sets-numbered source (first ∷ own) = refl

-- children of a source and own ones, by their places
pub placed-by : (kind : Option Kind) (source own : List Child) → by_place kind (plain_by kind source own) ≡ children_by kind (by_place kind source) (by_place kind own)
placed-by None source own = refl
placed-by (Some peripheral) source own = refl
placed-by (Some cluster) source own = refl
placed-by (Some register) source own = refl
placed-by (Some field) source own = sets-numbered source own
placed-by (Some set) source own = merged-numbered source own
placed-by (Some value) source own = refl
