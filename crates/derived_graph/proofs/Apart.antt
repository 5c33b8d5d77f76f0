-- Merged children have different names, where those of the source and the own ones do.
use Rattle.std.proofs.Common.{◌≡◌, Bool, true, false, cond, not, ◌&&◌, ◌||◌, List, [], ◌∷◌, ◌++◌, map, filter, refl, sym, ap, ap₂, ◌∙◌, subst, append_assoc}
use Rattle.std.specs.Cmp.Lexicographic.{bytes_decides}
use Rattle.std.specs.List.{AllByRecursion, IsDistinct}
use Rattle.std.specs.Str.{bytes_eq}
use Rattle.std.proofs.lemmas.Bool.{not-true, true≢false}
use Rattle.std.proofs.lemmas.List.{map-append}
use Rattle.derived_rows.specs.Merging.{has_named, replaced_by, kept, added, merged}
use Rattle.need_order.proofs.Numbers.{or_none}
use Rattle.svd_model.specs.Steps.{Step}

-- the two steps have one written name
abbrev pub same_name : Step → Step → Bool
same_name step other = bytes_eq step.name other.name

named-alone : (s t : Step) → same_name s t ≡ true → s.name ≡ t.name
named-alone s t e = (bytes_decides s.name t.name).0 e

named-same : (s t : Step) → s.name ≡ t.name → same_name s t ≡ true
named-same s t e = (bytes_decides s.name t.name).1 e

other_name : (s t : Step) → same_name s t ≡ false → same_name t s ≡ false
other_name s t e = by (same_name t s) refl
  where
    by : (b : Bool) → same_name t s ≡ b → same_name t s ≡ false
    by false p = p
    by true p = absurd (true≢false (sym (named-same s t (sym (named-alone t s p))) ∙ e))

unlike : (s t u v : Step) → same_name s t ≡ false → s.name ≡ u.name → t.name ≡ v.name → same_name u v ≡ false
unlike s t u v e p q = ap₂ bytes_eq (sym p) (sym q) ∙ e

pub all_append : {A : Type 0} (P : A → Type 0) (xs ys : List A) → AllByRecursion P xs → AllByRecursion P ys → AllByRecursion P (xs ++ ys)
all_append P [] ys h k = k
all_append P (x ∷ xs) ys h k = (h.0, all_append P xs ys h.1 k)

apart_append : (same : Step → Step → Bool) (xs ys : List Step) → IsDistinct same xs → IsDistinct same ys → AllByRecursion (λ s. AllByRecursion (λ t. same s t ≡ false) ys) xs → IsDistinct same (xs ++ ys)
unfolding IsDistinct
apart_append same [] ys h k cross = k
apart_append same (x ∷ xs) ys h k cross = (all_append (λ t. same x t ≡ false) xs ys h.0 cross.0, apart_append same xs ys h.1 k cross.1)

and_none : (b : Bool) → (b && false) ≡ false
and_none true = refl
and_none false = refl

module _ {X : Type 0} where
  abbrev pub step_of : (Step × X) → Step
  step_of child = child.0

  -- what is behind these has another name than each of them
  fresh : (before : List (Step × X)) (child : Step × X) (rest : List (Step × X)) → IsDistinct same_name (map step_of (before ++ (child ∷ rest))) → has_named before child ≡ false
  unfolding IsDistinct has_named
  fresh [] child rest h = refl
  fresh (x ∷ before) child rest h =
      ap₂ (λ a b. a || b) (other_name x.0 child.0 (here before h.0)) (fresh before child rest h.1)
    where
      here : (xs : List (Step × X)) → AllByRecursion (λ t. same_name x.0 t ≡ false) (map step_of (xs ++ (child ∷ rest))) → same_name x.0 child.0 ≡ false
      here [] h = h.0
      here (y ∷ xs) h = here xs h.1

  kept-each : (before source own : List (Step × X)) → IsDistinct same_name (map step_of (before ++ source)) → kept before source own ≡ map (replaced_by own) source
  unfolding kept
  kept-each before [] own h = refl
  kept-each before (child ∷ source) own h =
      ap (λ b. cond (has_named own child && b) [] (replaced_by own child ∷ []) ++ kept (before ++ child ∷ []) source own) (fresh before child source h)
      ∙ ap (λ b. cond b [] (replaced_by own child ∷ []) ++ kept (before ++ child ∷ []) source own) (and_none (has_named own child))
      ∙ ap (λ r. replaced_by own child ∷ r) (kept-each (before ++ child ∷ []) source own (subst (λ l. IsDistinct same_name (map step_of l)) (sym (append_assoc before (child ∷ []) source)) h))

  added-each : (before source own : List (Step × X)) → IsDistinct same_name (map step_of (before ++ own)) → added before source own ≡ filter (λ child. not (has_named source child)) own
  unfolding added
  added-each before source [] h = refl
  added-each before source (child ∷ own) h =
      ap (λ b. cond (has_named source child && not b) [] (child ∷ []) ++ added (before ++ child ∷ []) source own) (fresh before child own h)
      ∙ ap (λ r. cond (has_named source child && true) [] (child ∷ []) ++ r) (added-each (before ++ child ∷ []) source own (subst (λ l. IsDistinct same_name (map step_of l)) (sym (append_assoc before (child ∷ []) own)) h))
      ∙ at (has_named source child)
    where
      at : (b : Bool) → cond (b && true) [] (child ∷ []) ++ filter (λ c. not (has_named source c)) own ≡ cond (not b) (child ∷ filter (λ c. not (has_named source c)) own) (filter (λ c. not (has_named source c)) own)
      at true = refl
      at false = refl

  like : (own : List (Step × X)) (child : Step × X) → child.0.name ≡ (replaced_by own child).0.name
  unfolding replaced_by
  like [] child = refl
  like (y ∷ own) child = by (bytes_eq child.0.name y.0.name) refl (like own child)
    where
      by : (b : Bool) → bytes_eq child.0.name y.0.name ≡ b → child.0.name ≡ (replaced_by own child).0.name → child.0.name ≡ (cond b y (replaced_by own child)).0.name
      by true p rest = named-alone child.0 y.0 p
      by false p rest = rest

  all_replaced : (own : List (Step × X)) (child : Step × X) (xs : List (Step × X)) → AllByRecursion (λ t. same_name child.0 t ≡ false) (map step_of xs) → AllByRecursion (λ t. same_name (replaced_by own child).0 t ≡ false) (map step_of (map (replaced_by own) xs))
  all_replaced own child [] h = tt
  all_replaced own child (y ∷ xs) h = (unlike child.0 y.0 (replaced_by own child).0 (replaced_by own y).0 h.0 (like own child) (like own y), all_replaced own child xs h.1)

  replaced_apart : (own xs : List (Step × X)) → IsDistinct same_name (map step_of xs) → IsDistinct same_name (map step_of (map (replaced_by own) xs))
  unfolding IsDistinct
  replaced_apart own [] h = tt
  replaced_apart own (x ∷ xs) h = (all_replaced own x xs h.0, replaced_apart own xs h.1)

  all_filter : (P : Step → Type 0) (p : (Step × X) → Bool) (xs : List (Step × X)) → AllByRecursion P (map step_of xs) → AllByRecursion P (map step_of (filter p xs))
  all_filter P p [] h = tt
  all_filter P p (x ∷ xs) h = by (p x) (all_filter P p xs h.1)
    where
      by : (b : Bool) → AllByRecursion P (map step_of (filter p xs)) → AllByRecursion P (map step_of (cond b (x ∷ filter p xs) (filter p xs)))
      by true rest = (h.0, rest)
      by false rest = rest

  filter_apart : (p : (Step × X) → Bool) (xs : List (Step × X)) → IsDistinct same_name (map step_of xs) → IsDistinct same_name (map step_of (filter p xs))
  unfolding IsDistinct
  filter_apart p [] h = tt
  filter_apart p (x ∷ xs) h = by (p x) (filter_apart p xs h.1)
    where
      by : (b : Bool) → IsDistinct same_name (map step_of (filter p xs)) → IsDistinct same_name (map step_of (cond b (x ∷ filter p xs) (filter p xs)))
      by true rest = (all_filter (λ t. same_name x.0 t ≡ false) p xs h.0, rest)
      by false rest = rest

  passes : (P : Step → Type 0) (p : (Step × X) → Bool) → ((y : Step × X) → p y ≡ true → P y.0) → (ys : List (Step × X)) → AllByRecursion P (map step_of (filter p ys))
  passes P p each_one [] = tt
  passes P p each_one (y ∷ ys) = by (p y) refl (passes P p each_one ys)
    where
      by : (b : Bool) → p y ≡ b → AllByRecursion P (map step_of (filter p ys)) → AllByRecursion P (map step_of (cond b (y ∷ filter p ys) (filter p ys)))
      by true e rest = (each_one y e, rest)
      by false e rest = rest

  crossing : (source own others left : List (Step × X)) → ((y : Step × X) → has_named source y ≡ false → has_named left y ≡ false) → AllByRecursion (λ s. AllByRecursion (λ t. same_name s t ≡ false) (map step_of (filter (λ c. not (has_named source c)) others))) (map step_of (map (replaced_by own) left))
  unfolding has_named
  crossing source own others [] sub = tt
  crossing source own others (x ∷ left) sub = (
    passes (λ t. same_name (replaced_by own x).0 t ≡ false) (λ c. not (has_named source c))
        (λ y e. unlike x.0 y.0 (replaced_by own x).0 y.0 (other_name y.0 x.0 (or_none (bytes_eq y.0.name x.0.name) (has_named left y) (sub y (not-true (has_named source y) e))).0) (like own x) refl) others,
    crossing source own others left (λ y e. (or_none (bytes_eq y.0.name x.0.name) (has_named left y) (sub y e)).1),
  )

  pub merged_apart : (source own : List (Step × X)) → IsDistinct same_name (map step_of source) → IsDistinct same_name (map step_of own) → IsDistinct same_name (map step_of (merged source own))
  unfolding merged
  merged_apart source own h k =
      subst (λ l. IsDistinct same_name (map step_of l)) (sym (ap₂ (λ a b. a ++ b) (kept-each [] source own h) (added-each [] source own k)))
      (subst (IsDistinct same_name) (sym (map-append step_of (map (replaced_by own) source) (filter (λ c. not (has_named source c)) own)))
      (apart_append same_name (map step_of (map (replaced_by own) source)) (map step_of (filter (λ c. not (has_named source c)) own))
      (replaced_apart own source h) (filter_apart (λ c. not (has_named source c)) own k)
      (crossing source own own source (λ y e. e))))
