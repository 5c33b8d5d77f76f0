-- Lists by keys, out of which numbers are moved and into which they are put.
use Rattle.std.proofs.Common.{◌≡◌, inl, inr, ℕ, suc, ◌+◌, ◌<◌, ◌≤◌, Bool, true, false, ◌||◌, cond, nat_eq, List, [], ◌∷◌, ◌++◌, filter, length, take, drop, drop-cons, set, get_or, Some, slice_get, refl, sym, ap, ap₂, ◌∙◌, arith, append_assoc, append-nil, Vec}
use Rattle.std.proofs.lemmas.Bool.{cases_eq, cases_lt, eq-eqb, ne_eqb}
use Rattle.std.proofs.lemmas.List.{get_or_append_left, length_push, get_or-set_same, get_or-set_other, length-set, take_more, drop_all}
use Rattle.std.proofs.lemmas.List.Elements.{filter-append}
use Rattle.std.proofs.Math.Seq.{get_or-append_seam}
use Rattle.std.proofs.lemmas.List.Folds.{list_any-append}
use Rattle.std.proofs.lemmas.Option.{slice_get-get_or, slice_get_past, slice_get_within}
use Rattle.derive_order.specs.Gone.{key_of, has_key, is_key_of, without, taken_from}
use Rattle.need_order.specs.Children.{items_in, items_at}

module _ {Z : Type 0} where
  -- a list is replaced by another
  pub at_set : (old : List (Vec ℕ Z)) (p : ℕ) (was now : Vec ℕ Z) → slice_get old p ≡ Some was → (e : ℕ) → items_at (set old p now) e ≡ cond (nat_eq e p) now.items (items_at old e)
  unfolding items_at
  at_set old p was now is e = elim (cases_eq e p) [
    | inl same ↦
        let inside : p < length old = slice_get_within old p was is in
        ap (λ i. items_in (slice_get (set old p now) i)) same
        ∙ ap items_in (slice_get-get_or (set old p now) p now (omega (arith, inside, length-set old p now)) ∙ ap Some (get_or-set_same old p now now inside))
        ∙ sym (ap (λ b. cond b now.items (items_in (slice_get old e))) (eq-eqb e p same))
    | inr other ↦
        ap items_in (elsewhere other)
        ∙ sym (ap (λ b. cond b now.items (items_in (slice_get old e))) (ne_eqb e p other))
  ]
    where
      elsewhere : (e ≡ p → ⊥) → slice_get (set old p now) e ≡ slice_get old e
      elsewhere other = elim (cases_lt e (length old)) [
        | inl inside ↦
            slice_get-get_or (set old p now) e now (omega (arith, inside, length-set old p now))
            ∙ ap Some (get_or-set_other old p e now now other)
            ∙ sym (slice_get-get_or old e now inside)
        | inr past ↦ slice_get_past (set old p now) e (omega (arith, past, length-set old p now)) ∙ sym (slice_get_past old e past)
      ]

  pub nothing_at : (old : List (Vec ℕ Z)) (key : ℕ) → length old ≤ key → items_at old key ≡ []
  unfolding items_at
  nothing_at old key past = ap items_in (slice_get_past old key past)

  pub there_at : (old : List (Vec ℕ Z)) (key : ℕ) (was : Vec ℕ Z) → slice_get old key ≡ Some was → items_at old key ≡ was.items
  unfolding items_at
  there_at old key was is = ap items_in is

  pub moved : (old : List (Vec ℕ Z)) (key : ℕ) (was now : Vec ℕ Z) → slice_get old key ≡ Some was → now.items ≡ [] → (id : ℕ) → items_at (set old key now) id ≡ without key (items_at old) id
  moved old key was now is none id = at_set old key was now is id ∙ ap (λ xs. cond (nat_eq id key) xs (items_at old id)) none

  pub unmoved : (old : List (Vec ℕ Z)) (key : ℕ) → length old ≤ key → (id : ℕ) → items_at old id ≡ without key (items_at old) id
  unmoved old key past id = elim (cases_eq id key) [
    | inl same ↦ ap (items_at old) same ∙ nothing_at old key past ∙ sym (ap (λ b. cond b [] (items_at old id)) (eq-eqb id key same))
    | inr other ↦ sym (ap (λ b. cond b [] (items_at old id)) (ne_eqb id key other))
  ]

  pub pushed : (old : List (Vec ℕ Z)) (key number : ℕ) (was now : Vec ℕ Z) → slice_get old key ≡ Some was → now.items ≡ was.items ++ number ∷ [] → (id : ℕ) → items_at (set old key now) id ≡ cond (nat_eq id key) (items_at old id ++ number ∷ []) (items_at old id)
  pushed old key number was now is more id = at_set old key was now is id ∙ elim (cases_eq id key) [
    | inl same ↦ ap (λ b. cond b now.items (items_at old id)) (eq-eqb id key same) ∙ more ∙ ap (λ xs. xs ++ number ∷ []) (sym (ap (items_at old) same ∙ there_at old key was is)) ∙ sym (ap (λ b. cond b (items_at old id ++ number ∷ []) (items_at old id)) (eq-eqb id key same))
    | inr other ↦ ap (λ b. cond b now.items (items_at old id)) (ne_eqb id key other) ∙ sym (ap (λ b. cond b (items_at old id ++ number ∷ []) (items_at old id)) (ne_eqb id key other))
  ]

  pub unpushed : (old : List (Vec ℕ Z)) (key number : ℕ) → length old ≤ key → (id : ℕ) → id < length old → items_at old id ≡ cond (nat_eq id key) (items_at old id ++ number ∷ []) (items_at old id)
  unpushed old key number past id inside = sym (ap (λ b. cond b (items_at old id ++ number ∷ []) (items_at old id)) (ne_eqb id key (λ e. absurd (omega (arith, e, past, inside)))))

  -- no list, and one more without an item
  pub none_new : (made : List (Vec ℕ Z)) → made ≡ [] → (id : ℕ) → items_at made id ≡ []
  unfolding items_at
  none_new made none id = ap items_in (slice_get_past made id (omega (arith, ap (λ l. length l) none)))

  pub none_more : (made : List (Vec ℕ Z)) (x : Vec ℕ Z) → x.items ≡ [] → ((id : ℕ) → items_at made id ≡ []) → (id : ℕ) → items_at (made ++ x ∷ []) id ≡ []
  unfolding items_at
  none_more made x none before id = elim (cases_lt id (length made)) [
    | inl inside ↦
        ap items_in (slice_get-get_or (made ++ x ∷ []) id x (omega (arith, inside, length_push made x)) ∙ ap Some (get_or_append_left made (x ∷ []) x id inside) ∙ sym (slice_get-get_or made id x inside)) ∙ before id
    | inr past ↦ elim (cases_lt (length made) id) [
      | inl further ↦ ap items_in (slice_get_past (made ++ x ∷ []) id (omega (arith, further, length_push made x)))
      | inr near ↦
          ap (λ i. items_in (slice_get (made ++ x ∷ []) i)) (at_end id (length made) past near)
          ∙ ap items_in (slice_get-get_or (made ++ x ∷ []) (length made) x (omega (arith, length_push made x)) ∙ ap Some (get_or-append_seam made x [] x)) ∙ none
    ]
  ]
    where
      at_end : (a b : ℕ) → b ≤ a → a ≤ b → a ≡ b
      at_end a b h k = omega (arith, h, k)

-- ---- loops

pub taken-agree : (keys : List ℕ) (T U : ℕ → List ℕ) → ((id : ℕ) → T id ≡ U id) → (parts : List ℕ) → taken_from keys T parts ≡ taken_from keys U parts
unfolding taken_from
taken-agree keys T U same [] = refl
taken-agree keys T U same (part ∷ parts) =
    ap₂ (λ a b. a ++ b) (same (key_of keys part))
    (taken-agree keys (without (key_of keys part) T) (without (key_of keys part) U) (λ id. ap (λ xs. cond (nat_eq id (key_of keys part)) [] xs) (same id)) parts)

pub taken_step : (keys parts : List ℕ) (i part : ℕ) → i < length parts → part ≡ get_or parts i 0 → (taken taken' whole : List ℕ) (U V : ℕ → List ℕ)
    → taken ++ taken_from keys U (drop i parts) ≡ whole → taken' ≡ taken ++ U (key_of keys part) → ((id : ℕ) → V id ≡ without (key_of keys part) U id) → taken' ++ taken_from keys V (drop (i + 1) parts) ≡ whole
unfolding taken_from
taken_step keys parts i part inside is taken taken' whole U V before more same =
    ap₂ (λ xs ys. xs ++ ys) more (taken-agree keys V (without (key_of keys part) U) same (drop (i + 1) parts))
    ∙ append_assoc taken (U (key_of keys part)) (taken_from keys (without (key_of keys part) U) (drop (i + 1) parts))
    ∙ ap (λ rest. taken ++ taken_from keys U rest) (sym left)
    ∙ before
  where
    plain : (k : ℕ) → suc k ≡ k + 1
    plain k = omega arith

    left : drop i parts ≡ part ∷ drop (i + 1) parts
    left = drop-cons parts i 0 inside ∙ ap₂ (λ p k. p ∷ drop k parts) (sym is) (plain i)

pub taken_end : (keys parts : List ℕ) (i : ℕ) → length parts ≤ i → (taken whole : List ℕ) (U : ℕ → List ℕ) → taken ++ taken_from keys U (drop i parts) ≡ whole → taken ≡ whole
unfolding taken_from
taken_end keys parts i done taken whole U before = sym (append-nil taken) ∙ ap (λ rest. taken ++ taken_from keys U rest) (sym (drop_all i parts done)) ∙ before

pub keys_more : (keys parts : List ℕ) (i part : ℕ) → i < length parts → part ≡ get_or parts i 0 → (id : ℕ) → is_key_of keys (take (i + 1) parts) id ≡ (is_key_of keys (take i parts) id || has_key keys id part)
keys_more keys parts i part inside is id =
    ap (λ xs. is_key_of keys xs id) (take_more parts i 0 inside ∙ ap (λ p. take i parts ++ p ∷ []) (sym is))
    ∙ list_any-append (has_key keys id) (take i parts) (part ∷ [])
    ∙ ap (λ b. is_key_of keys (take i parts) id || b) (plain (has_key keys id part))
  where
    plain : (b : Bool) → (b || false) ≡ b
    plain true = refl
    plain false = refl

pub tops_step : (keys parts : List ℕ) (i part : ℕ) → i < length parts → part ≡ get_or parts i 0 → (T U V : ℕ → List ℕ)
    → ((id : ℕ) → U id ≡ cond (is_key_of keys (take i parts) id) [] (T id)) → ((id : ℕ) → V id ≡ without (key_of keys part) U id) → (id : ℕ) → V id ≡ cond (is_key_of keys (take (i + 1) parts) id) [] (T id)
tops_step keys parts i part inside is T U V before same id =
    same id ∙ ap (λ xs. cond (has_key keys id part) [] xs) (before id) ∙ by (is_key_of keys (take i parts) id) (has_key keys id part)
    ∙ sym (ap (λ b. cond b [] (T id)) (keys_more keys parts i part inside is id))
  where
    by : (a b : Bool) → cond b [] (cond a [] (T id)) ≡ cond (a || b) [] (T id)
    by true true = refl
    by true false = refl
    by false b = refl

pub with_step : (keys numbers : List ℕ) (i number : ℕ) → i < length numbers → number ≡ get_or numbers i 0 → (t u v : List ℕ) (id : ℕ)
    → u ≡ t ++ filter (has_key keys id) (take i numbers) → v ≡ cond (has_key keys id number) (u ++ number ∷ []) u → v ≡ t ++ filter (has_key keys id) (take (i + 1) numbers)
with_step keys numbers i number inside is t u v id before more =
    more ∙ by (has_key keys id number) ∙ ap (λ xs. xs ++ cond (has_key keys id number) (number ∷ []) []) before
    ∙ append_assoc t (filter (has_key keys id) (take i numbers)) (cond (has_key keys id number) (number ∷ []) [])
    ∙ ap (λ xs. t ++ xs) (sym (ap (filter (has_key keys id)) (take_more numbers i 0 inside ∙ ap (λ n. take i numbers ++ n ∷ []) (sym is)) ∙ filter-append (has_key keys id) (take i numbers) (number ∷ [])))
  where
    by : (b : Bool) → cond b (u ++ number ∷ []) u ≡ u ++ cond b (number ∷ []) []
    by true = refl
    by false = sym (append-nil u)
