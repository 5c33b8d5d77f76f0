-- What holds of keys that are taken.
use Rattle.std.proofs.Common.{◌≡◌, ◌⊎◌, inl, inr, Bool, true, false, ◌||◌, cond, nat_eq, nat_lt, List, [], ◌∷◌, ◌++◌, refl, sym, ap, ◌∙◌}
use Rattle.std.specs.List.{AllByRecursion, list_any}
use Rattle.std.proofs.lemmas.Bool.{or_cases, eqb-true, true≢false}
use Rattle.derived_rows.specs.Merging.{stays_behind, is_stated, with_taken, taken}
use Rattle.svd_model.specs.Facts.{is_offset}
use Rattle.svd_model.specs.Keys.{Key, rank, at_offset}
use Rattle.svd_model.specs.Steps.{Step}
use Rattle.svd_rows.specs.Ranks.{set_key}

module _ (P : Key → Type 0) where
  each-set : (key : Key) (keys : List Key) → P key → AllByRecursion P keys → AllByRecursion P (set_key rank key keys)
  unfolding set_key
  each-set key [] p h = (p, tt)
  each-set key (first ∷ keys) p h = less (nat_lt (rank first) (rank key)) (each-set key keys p h.1)
    where
      same : (b : Bool) → AllByRecursion P (cond b (key ∷ keys) (key ∷ first ∷ keys))
      same true = (p, h.1)
      same false = (p, h)

      less : (b : Bool) → AllByRecursion P (set_key rank key keys) → AllByRecursion P (cond b (first ∷ set_key rank key keys) (cond (nat_eq (rank first) (rank key)) (key ∷ keys) (key ∷ first ∷ keys)))
      less true rest = (h.0, rest)
      less false rest = same (nat_eq (rank first) (rank key))

  -- it holds of all keys that are taken, where it does of the own ones and of the source's
  pub each-taken : (marked : Bool) (own source : List Key) → AllByRecursion P own → AllByRecursion P source → AllByRecursion P (taken marked own source)
  unfolding taken with_taken
  each-taken marked own [] h k = h
  each-taken marked own (key ∷ source) h k = each-taken marked (with_taken marked key own) source (at (stays_behind marked key || is_stated own key)) k.1
    where
      at : (b : Bool) → AllByRecursion P (cond b own (set_key rank key own))
      at true = h
      at false = each-set key own k.0 h

abbrev pub has_offset : List Key → Bool
has_offset keys = list_any is_offset keys

or-true : (b : Bool) → (b || true) ≡ true
or-true true = refl
or-true false = refl

pub or-right : (a b : Bool) → b ≡ true → (a || b) ≡ true
or-right true b e = refl
or-right false b e = e

set-offset : (key : Key) (keys : List Key) → is_offset key ≡ true → has_offset (set_key rank key keys) ≡ true
unfolding set_key
set-offset key [] e = ap (λ b. b || false) e
set-offset key (first ∷ keys) e = less (nat_lt (rank first) (rank key)) (set-offset key keys e)
  where
    same : (b : Bool) → has_offset (cond b (key ∷ keys) (key ∷ first ∷ keys)) ≡ true
    same true = ap (λ b. b || has_offset keys) e
    same false = ap (λ b. b || has_offset (first ∷ keys)) e

    less : (b : Bool) → has_offset (set_key rank key keys) ≡ true → has_offset (cond b (first ∷ set_key rank key keys) (cond (nat_eq (rank first) (rank key)) (key ∷ keys) (key ∷ first ∷ keys))) ≡ true
    less true rest = or-right (is_offset first) (has_offset (set_key rank key keys)) rest
    less false rest = same (nat_eq (rank first) (rank key))

offset-rank : (one other : Key) → is_offset one ≡ true → rank one ≡ rank other → is_offset other ≡ true
unfolding rank
offset-rank (at_offset n) (at_offset m) e same = refl
offset-rank _ _ e same = absurd cc

-- another key in its place leaves an offset, unless it is one
set-keeps : (key : Key) (keys : List Key) → has_offset keys ≡ true → has_offset (set_key rank key keys) ≡ true
unfolding set_key
set-keeps key [] h = absurd (true≢false (sym h))
set-keeps key (first ∷ keys) h = less (nat_lt (rank first) (rank key)) (set-keeps key keys) (or_cases (is_offset first) (has_offset keys) h)
  where
    same : (b : Bool) → nat_eq (rank first) (rank key) ≡ b → has_offset (cond b (key ∷ keys) (key ∷ first ∷ keys)) ≡ true
    same true e = elim (or_cases (is_offset first) (has_offset keys) h) [
      | inl p ↦ ap (λ b. b || has_offset keys) (offset-rank first key p (eqb-true (rank first) (rank key) e))
      | inr q ↦ or-right (is_offset key) (has_offset keys) q
    ]
    same false e = or-right (is_offset key) (has_offset (first ∷ keys)) h

    less : (b : Bool) → (has_offset keys ≡ true → has_offset (set_key rank key keys) ≡ true) → ((is_offset first ≡ true) ⊎ (has_offset keys ≡ true)) → has_offset (cond b (first ∷ set_key rank key keys) (cond (nat_eq (rank first) (rank key)) (key ∷ keys) (key ∷ first ∷ keys))) ≡ true
    less true again (inl p) = ap (λ b. b || has_offset (set_key rank key keys)) p
    less true again (inr q) = or-right (is_offset first) (has_offset (set_key rank key keys)) (again q)
    less false again cases = same (nat_eq (rank first) (rank key)) refl

stated-offset : (keys : List Key) (key : Key) → is_offset key ≡ true → is_stated keys key ≡ true → has_offset keys ≡ true
unfolding is_stated
stated-offset [] key e h = absurd (true≢false (sym h))
stated-offset (first ∷ keys) key e h = elim (or_cases (nat_eq (rank first) (rank key)) (is_stated keys key) h) [
  | inl p ↦ ap (λ b. b || has_offset keys) (offset-rank key first e (sym (eqb-true (rank first) (rank key) p)))
  | inr q ↦ or-right (is_offset first) (has_offset keys) (stated-offset keys key e q)
]

stays-offset : (marked : Bool) (key : Key) → is_offset key ≡ true → stays_behind marked key ≡ false
stays-offset marked (at_offset n) e = refl
stays-offset marked _ e = absurd cc

module _ (marked : Bool) where
  -- an own offset stays
  pub taken-own : (own source : List Key) → has_offset own ≡ true → has_offset (taken marked own source) ≡ true
  unfolding taken with_taken
  taken-own own [] h = h
  taken-own own (key ∷ source) h = taken-own (with_taken marked key own) source (at (stays_behind marked key || is_stated own key))
    where
      at : (b : Bool) → has_offset (cond b own (set_key rank key own)) ≡ true
      at true = h
      at false = set-keeps key own h

  -- the source's is taken where there is none
  pub taken-source : (own source : List Key) → has_offset source ≡ true → has_offset (taken marked own source) ≡ true
  unfolding taken with_taken
  taken-source own [] h = absurd (true≢false (sym h))
  taken-source own (key ∷ source) h = elim (or_cases (is_offset key) (has_offset source) h) [
    | inl p ↦ taken-own (with_taken marked key own) source (at p (stays_behind marked key) (stays-offset marked key p) (is_stated own key) refl)
    | inr q ↦ taken-source (with_taken marked key own) source q
  ]
    where
      at : is_offset key ≡ true → (b : Bool) → b ≡ false → (c : Bool) → is_stated own key ≡ c → has_offset (cond (b || c) own (set_key rank key own)) ≡ true
      at p true f c e = absurd (true≢false f)
      at p false f true e = stated-offset own key p e
      at p false f false e = set-offset key own p

-- ---- last steps

pub no_push : (path : List Step) (step : Step) → path ++ step ∷ [] ≡ [] → ⊥
no_push [] step e = absurd cc
no_push (s ∷ path) step e = absurd cc

last : Step → List Step → Step
last none [] = none
last none (s ∷ path) = last s path

last-push : (none : Step) (path : List Step) (step : Step) → last none (path ++ step ∷ []) ≡ step
unfolding last
last-push none [] step = refl
last-push none (s ∷ path) step = last-push s path step

pub last-same : (path other : List Step) (s t : Step) → path ++ s ∷ [] ≡ other ++ t ∷ [] → s ≡ t
last-same path other s t e = sym (last-push s path s) ∙ ap (last s) e ∙ last-push s other t
