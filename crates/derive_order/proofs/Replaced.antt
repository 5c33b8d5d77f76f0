-- Children by keys, one level further down and one level up.
use Rattle.std.proofs.Common.{◌≡◌, inl, inr, ℕ, ◌<◌, Bool, true, false, not, ◌&&◌, ◌||◌, cond, nat_eq, List, [], ◌∷◌, ◌++◌, filter, refl, sym, ap, ap₂, ◌∙◌, subst, append_assoc, append-nil}
use Rattle.std.specs.List.Sorted.{IsPermutation}
use Rattle.std.proofs.lemmas.Bool.{cases_Bool, eqb-true, eq-eqb}
use Rattle.std.proofs.lemmas.List.Elements.{filter-append}
use Rattle.std.proofs.lemmas.List.Sorted.{IsPermutation-refl, IsPermutation-sym, IsPermutation-trans, IsPermutation-append, IsPermutation-append_left, IsPermutation-append_comm, IsPermutation-filter_both}
use Rattle.derive_order.specs.Gone.{key_of, has_key, is_key_of, is_gone, without, taken_from, AreBelow}
use Rattle.derive_order.proofs.Shuffles.{filter_shuffled, filter_filter, filter_agree, filter_nothing}
use Rattle.need_order.proofs.Numbers.{or_none}

turned : (a b : ℕ) → nat_eq a b ≡ nat_eq b a
turned a b = both (nat_eq a b) (nat_eq b a) (λ e. eq-eqb b a (sym (eqb-true a b e))) (λ e. eq-eqb a b (sym (eqb-true b a e)))
  where
    both : (x y : Bool) → (x ≡ true → y ≡ true) → (y ≡ true → x ≡ true) → x ≡ y
    both true y f g = sym (f refl)
    both false true f g = g refl
    both false false f g = refl

module _ (keys : List ℕ) where
  -- of the elements with a key, all are gone or none is
  gone-by : (parts : List ℕ) (id d : ℕ) → has_key keys id d ≡ true → is_gone keys parts d ≡ is_key_of keys parts id
  gone-by parts id d h = ap (is_key_of keys parts) (sym (eqb-true id (key_of keys d) h))

  with_key : (f : Bool → Bool) (parts : List ℕ) (id d : ℕ) → (f (is_gone keys parts d) && has_key keys id d) ≡ (f (is_key_of keys parts id) && has_key keys id d)
  with_key f parts id d = elim (cases_Bool (has_key keys id d)) [
    | inl p ↦ ap (λ b. f b && has_key keys id d) (gone-by parts id d p)
    | inr q ↦ ap (λ b. f (is_gone keys parts d) && b) q ∙ and_false (f (is_gone keys parts d)) ∙ sym (ap (λ b. f (is_key_of keys parts id) && b) q ∙ and_false (f (is_key_of keys parts id)))
  ]
    where
      and_false : (b : Bool) → (b && false) ≡ false
      and_false true = refl
      and_false false = refl

  -- what passes a test of being gone, by a key
  keyed : (f : Bool → Bool) (parts : List ℕ) (id : ℕ) (xs : List ℕ) → filter (has_key keys id) (filter (λ d. f (is_gone keys parts d)) xs) ≡ filter (λ d. f (is_key_of keys parts id) && has_key keys id d) xs
  keyed f parts id xs = filter_filter (has_key keys id) (λ d. f (is_gone keys parts d)) xs ∙ filter_agree _ _ (with_key f parts id) xs

  keyed-all : (f : Bool → Bool) (parts : List ℕ) (id : ℕ) (xs : List ℕ) → f (is_key_of keys parts id) ≡ true → filter (has_key keys id) (filter (λ d. f (is_gone keys parts d)) xs) ≡ filter (has_key keys id) xs
  keyed-all f parts id xs h = keyed f parts id xs ∙ filter_agree (λ d. f (is_key_of keys parts id) && has_key keys id d) (has_key keys id) (λ d. ap (λ b. b && has_key keys id d) h) xs

  keyed-none : (f : Bool → Bool) (parts : List ℕ) (id : ℕ) (xs : List ℕ) → f (is_key_of keys parts id) ≡ false → filter (has_key keys id) (filter (λ d. f (is_gone keys parts d)) xs) ≡ []
  keyed-none f parts id xs h = keyed f parts id xs ∙ filter_nothing (λ d. f (is_key_of keys parts id) && has_key keys id d) (λ d. ap (λ b. b && has_key keys id d) h) xs

  no_parts : (id : ℕ) (parts : List ℕ) → is_key_of keys parts id ≡ false → filter (has_key keys id) parts ≡ []
  no_parts id [] h = refl
  no_parts id (part ∷ parts) h =
      let r = or_none (has_key keys id part) (is_key_of keys parts id) h in
      ap₂ (λ b rest. cond b (part ∷ rest) rest) r.0 (no_parts id parts r.1)

  module _ (parts : List ℕ) (base children : List ℕ) (law : IsPermutation children (filter (λ d. not (is_gone keys parts d)) base ++ parts)) where
    by_key : (id : ℕ) → IsPermutation (filter (has_key keys id) children) (filter (has_key keys id) (filter (λ d. not (is_gone keys parts d)) base) ++ filter (has_key keys id) parts)
    by_key id = subst (IsPermutation (filter (has_key keys id) children)) (filter-append (has_key keys id) (filter (λ d. not (is_gone keys parts d)) base) parts) (filter_shuffled (has_key keys id) children (filter (λ d. not (is_gone keys parts d)) base ++ parts) law)

    -- one level further down
    pub entered : (id : ℕ) (top : List ℕ) → IsPermutation top (filter (has_key keys id) base) → IsPermutation (cond (is_key_of keys parts id) [] top ++ filter (has_key keys id) parts) (filter (has_key keys id) children)
    entered id top h = by (is_key_of keys parts id) refl
      where
        by : (b : Bool) → is_key_of keys parts id ≡ b → IsPermutation (cond b [] top ++ filter (has_key keys id) parts) (filter (has_key keys id) children)
        by true e = IsPermutation-sym _ _ (subst (λ xs. IsPermutation (filter (has_key keys id) children) (xs ++ filter (has_key keys id) parts)) (keyed-none not parts id base (ap not e)) (by_key id))
        by false e =
            IsPermutation-trans _ _ _ (IsPermutation-append_left (filter (has_key keys id) parts) top (filter (has_key keys id) base) h)
            (IsPermutation-sym _ _ (subst (λ xs. IsPermutation (filter (has_key keys id) children) (xs ++ filter (has_key keys id) parts)) (keyed-all not parts id base (ap not e)) (by_key id)))

    -- one level up
    pub left : (id : ℕ) (top gone : List ℕ) → IsPermutation top (filter (has_key keys id) children) → IsPermutation (filter (is_gone keys parts) base) gone → IsPermutation (cond (is_key_of keys parts id) [] top ++ filter (has_key keys id) gone) (filter (has_key keys id) base)
    left id top gone h told = by (is_key_of keys parts id) refl
      where
        back : IsPermutation (filter (has_key keys id) gone) (filter (has_key keys id) (filter (is_gone keys parts) base))
        back = filter_shuffled (has_key keys id) gone (filter (is_gone keys parts) base) (IsPermutation-sym _ _ told)

        by : (b : Bool) → is_key_of keys parts id ≡ b → IsPermutation (cond b [] top ++ filter (has_key keys id) gone) (filter (has_key keys id) base)
        by true e = subst (IsPermutation (filter (has_key keys id) gone)) (keyed-all (λ b. b) parts id base e) back
        by false e =
            subst (IsPermutation (top ++ filter (has_key keys id) gone)) (append-nil (filter (has_key keys id) base))
            (IsPermutation-append top (filter (has_key keys id) base) (filter (has_key keys id) gone) []
            (IsPermutation-trans _ _ _ h
            (subst (IsPermutation (filter (has_key keys id) children)) (ap₂ (λ xs ys. xs ++ ys) (keyed-all not parts id base (ap not e)) (no_parts id parts e) ∙ append-nil (filter (has_key keys id) base)) (by_key id)))
            (subst (IsPermutation (filter (has_key keys id) gone)) (keyed-none (λ b. b) parts id base e) back))

    -- all of both, as the children and those that are gone
    pub all_of : (gone : List ℕ) → IsPermutation (filter (is_gone keys parts) base) gone → IsPermutation (base ++ parts) (children ++ gone)
    all_of gone told =
        IsPermutation-trans _ _ _ (IsPermutation-append_left parts base (filter (is_gone keys parts) base ++ filter (λ d. not (is_gone keys parts d)) base) (IsPermutation-filter_both (is_gone keys parts) (λ d. not (is_gone keys parts d)) (λ d. refl) base))
        (subst (λ xs. IsPermutation xs (children ++ gone)) (sym (append_assoc (filter (is_gone keys parts) base) (filter (λ d. not (is_gone keys parts d)) base) parts))
        (IsPermutation-trans _ _ _ (IsPermutation-append_comm (filter (is_gone keys parts) base) (filter (λ d. not (is_gone keys parts d)) base ++ parts))
        (IsPermutation-append _ children _ gone (IsPermutation-sym _ _ law) told)))

  -- ---- what is taken

  shuffled-same : (xs ys zs : List ℕ) → ys ≡ zs → IsPermutation xs ys → IsPermutation xs zs
  shuffled-same xs ys zs e h = subst (IsPermutation xs) e h

  pub taken_shuffled : (limit : ℕ) → AreBelow keys limit → (parts : List ℕ) (tops : ℕ → List ℕ) (base : List ℕ) → ((id : ℕ) → id < limit → IsPermutation (tops id) (filter (has_key keys id) base)) → IsPermutation (filter (is_gone keys parts) base) (taken_from keys tops parts)
  unfolding taken_from
  taken_shuffled limit below [] tops base h = subst (λ xs. IsPermutation xs []) (sym (filter_nothing (is_gone keys []) (λ d. refl) base)) (IsPermutation-refl [])
  taken_shuffled limit below (part ∷ parts) tops base h =
      IsPermutation-trans _ _ _ (IsPermutation-filter_both (has_key keys key) (λ d. not (has_key keys key d)) (λ d. refl) (filter (is_gone keys (part ∷ parts)) base))
      (IsPermutation-append (filter (has_key keys key) (filter (is_gone keys (part ∷ parts)) base)) (tops key) (filter (λ d. not (has_key keys key d)) (filter (is_gone keys (part ∷ parts)) base)) (taken_from keys (without key tops) parts)
      (subst (λ xs. IsPermutation xs (tops key)) (sym (keyed-all (λ b. b) (part ∷ parts) key base (ap (λ b. b || is_key_of keys parts key) (eq-eqb key key refl)))) (IsPermutation-sym _ _ (h key (below part))))
      (subst (λ xs. IsPermutation xs (taken_from keys (without key tops) parts)) (sym others) (taken_shuffled limit below parts (without key tops) rest less)))
    where
      key : ℕ
      key = key_of keys part

      rest : List ℕ
      rest = filter (λ d. not (has_key keys key d)) base

      -- those of another key are gone where the other parts have their key
      one : (d : ℕ) (b : Bool) → has_key keys key d ≡ b → (is_gone keys (part ∷ parts) d && not (has_key keys key d)) ≡ (not (has_key keys key d) && is_gone keys parts d)
      one d b e = ap (λ c. (c || is_gone keys parts d) && not (has_key keys key d)) (turned (key_of keys d) key) ∙ by (has_key keys key d) (is_gone keys parts d)
        where
          by : (a c : Bool) → ((a || c) && not a) ≡ (not a && c)
          by true c = refl
          by false true = refl
          by false false = refl

      others : filter (λ d. not (has_key keys key d)) (filter (is_gone keys (part ∷ parts)) base) ≡ filter (is_gone keys parts) rest
      others =
          filter_filter (λ d. not (has_key keys key d)) (is_gone keys (part ∷ parts)) base
          ∙ filter_agree _ _ (λ d. one d (has_key keys key d) refl) base
          ∙ sym (filter_filter (is_gone keys parts) (λ d. not (has_key keys key d)) base)

      apart : (id d : ℕ) → nat_eq id key ≡ true → (not (has_key keys key d) && has_key keys id d) ≡ false
      apart id d e = ap (λ k. not (has_key keys key d) && has_key keys k d) (eqb-true id key e) ∙ by (has_key keys key d)
        where
          by : (a : Bool) → (not a && a) ≡ false
          by true = refl
          by false = refl

      alike : (id d : ℕ) → nat_eq id key ≡ false → (not (has_key keys key d) && has_key keys id d) ≡ has_key keys id d
      alike id d e = elim (cases_Bool (has_key keys id d)) [
        | inr q ↦ ap (λ b. not (has_key keys key d) && b) q ∙ and_false (not (has_key keys key d)) ∙ sym q
        | inl p ↦ ap (λ k. not (nat_eq key k) && has_key keys id d) (sym (eqb-true id (key_of keys d) p)) ∙ ap (λ b. not b && has_key keys id d) (turned key id ∙ e)
      ]
        where
          and_false : (b : Bool) → (b && false) ≡ false
          and_false true = refl
          and_false false = refl

      less : (id : ℕ) → id < limit → IsPermutation (without key tops id) (filter (has_key keys id) rest)
      less id inside = by (nat_eq id key) refl
        where
          by : (b : Bool) → nat_eq id key ≡ b → IsPermutation (cond b [] (tops id)) (filter (has_key keys id) rest)
          by true e = subst (IsPermutation []) (sym (filter_filter (has_key keys id) (λ d. not (has_key keys key d)) base ∙ filter_nothing _ (λ d. apart id d e) base)) (IsPermutation-refl [])
          by false e = subst (IsPermutation (tops id)) (sym (filter_filter (has_key keys id) (λ d. not (has_key keys key d)) base ∙ filter_agree _ _ (λ d. alike id d e) base)) (h id inside)
