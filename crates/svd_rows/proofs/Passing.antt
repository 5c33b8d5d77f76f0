-- Lists in which an item passes a test or none does, and what is added or exchanged there.
use Rattle.std.proofs.Common.{◌≡◌, Bool, true, false, cond, not, ◌||◌, List, [], ◌∷◌, ◌++◌, filter, refl, sym, ap, ◌∙◌, append-nil, append_assoc}
use Rattle.std.proofs.lemmas.Bool.{or_parts, cond-true, cond-false}
use Rattle.svd_rows.specs.RowEdits.{some_pass, added, exchanged}

module _ {X : Type 0} where
  pub some_pass-append : (test : X → Bool) (xs ys : List X) → some_pass test xs ≡ false → some_pass test (xs ++ ys) ≡ some_pass test ys
  unfolding some_pass
  some_pass-append test [] ys e = refl
  some_pass-append test (x ∷ xs) ys e =
      let parts = or_parts (test x) (some_pass test xs) e in
      ap (λ b. b || some_pass test (xs ++ ys)) parts.0 ∙ some_pass-append test xs ys parts.1

  pub some_pass-left : (test : X → Bool) (xs ys : List X) → some_pass test xs ≡ true → some_pass test (xs ++ ys) ≡ true
  unfolding some_pass
  some_pass-left test [] ys e = absurd (false-true e)
    where
      false-true : false ≡ true → ⊥
      false-true h = cc
  some_pass-left test (x ∷ xs) ys e = cases (test x) (some_pass-left test xs ys) e
    where
      cases : (b : Bool) → (some_pass test xs ≡ true → some_pass test (xs ++ ys) ≡ true) → (b || some_pass test xs) ≡ true → (b || some_pass test (xs ++ ys)) ≡ true
      cases true rest h = refl
      cases false rest h = rest h

  pub some_pass-right : (test : X → Bool) (xs ys : List X) → some_pass test ys ≡ true → some_pass test (xs ++ ys) ≡ true
  unfolding some_pass
  some_pass-right test [] ys e = e
  some_pass-right test (x ∷ xs) ys e = ap (λ b. test x || b) (some_pass-right test xs ys e) ∙ cases (test x)
    where
      cases : (b : Bool) → (b || true) ≡ true
      cases true = refl
      cases false = refl

  pub filter-none : (test : X → Bool) (xs : List X) → some_pass test xs ≡ false → filter test xs ≡ []
  unfolding some_pass
  filter-none test [] e = refl
  filter-none test (x ∷ xs) e =
      let parts = or_parts (test x) (some_pass test xs) e in
      cond-false (test x) (x ∷ filter test xs) (filter test xs) parts.0 ∙ filter-none test xs parts.1

  pub filter-not_none : (test : X → Bool) (xs : List X) → some_pass test xs ≡ false → filter (λ x. not (test x)) xs ≡ xs
  unfolding some_pass
  filter-not_none test [] e = refl
  filter-not_none test (x ∷ xs) e =
      let parts = or_parts (test x) (some_pass test xs) e in
      cond-true (not (test x)) (x ∷ filter (λ y. not (test y)) xs) (filter (λ y. not (test y)) xs) (ap not parts.0)
      ∙ ap (λ r. x ∷ r) (filter-not_none test xs parts.1)

  pub added-none : (test : X → Bool) (new xs : List X) → some_pass test xs ≡ false → added test new xs ≡ xs
  unfolding some_pass added
  added-none test new [] e = refl
  added-none test new (x ∷ xs) e =
      let parts = or_parts (test x) (some_pass test xs) e in
      ap (λ b. cond b (x ∷ added test new xs) (cond (test x) (x ∷ (new ++ xs)) (x ∷ xs))) parts.1
      ∙ ap (λ b. cond b (x ∷ (new ++ xs)) (x ∷ xs)) parts.0

  -- what stands before the last item that passes is passed over
  pub added-after : (test : X → Bool) (new xs ys : List X) → some_pass test ys ≡ true → added test new (xs ++ ys) ≡ xs ++ added test new ys
  unfolding added
  added-after test new [] ys e = refl
  added-after test new (x ∷ xs) ys e =
      ap (λ b. cond b (x ∷ added test new (xs ++ ys)) (cond (test x) (x ∷ (new ++ (xs ++ ys))) (x ∷ (xs ++ ys)))) (some_pass-right test xs ys e)
      ∙ ap (λ r. x ∷ r) (added-after test new xs ys e)

  -- what stands behind the last item that passes stays behind the new items
  pub added-before : (test : X → Bool) (new xs ys : List X) → some_pass test ys ≡ false → added test new (xs ++ ys) ≡ added test new xs ++ ys
  unfolding added
  added-before test new [] ys e = added-none test new ys e
  added-before test new (x ∷ xs) ys e = cases (added-before test new xs ys e) (some_pass test xs) refl (test x)
    where
      whole : (b : Bool) → some_pass test xs ≡ b → some_pass test (xs ++ ys) ≡ b
      whole true h = some_pass-left test xs ys h
      whole false h = some_pass-append test xs ys h ∙ e

      cases : added test new (xs ++ ys) ≡ added test new xs ++ ys → (b : Bool) → some_pass test xs ≡ b → (here : Bool) → cond (some_pass test (xs ++ ys)) (x ∷ added test new (xs ++ ys)) (cond here (x ∷ (new ++ (xs ++ ys))) (x ∷ (xs ++ ys))) ≡ cond (some_pass test xs) (x ∷ added test new xs) (cond here (x ∷ (new ++ xs)) (x ∷ xs)) ++ ys
      cases rest true h here =
          cond-true (some_pass test (xs ++ ys)) (x ∷ added test new (xs ++ ys)) (cond here (x ∷ (new ++ (xs ++ ys))) (x ∷ (xs ++ ys))) (whole true h)
          ∙ ap (λ r. x ∷ r) rest
          ∙ sym (ap (λ r. r ++ ys) (cond-true (some_pass test xs) (x ∷ added test new xs) (cond here (x ∷ (new ++ xs)) (x ∷ xs)) h))
      cases rest false h true =
          cond-false (some_pass test (xs ++ ys)) (x ∷ added test new (xs ++ ys)) (x ∷ (new ++ (xs ++ ys))) (whole false h)
          ∙ ap (λ r. x ∷ r) (sym (append_assoc new xs ys))
          ∙ sym (ap (λ r. r ++ ys) (cond-false (some_pass test xs) (x ∷ added test new xs) (x ∷ (new ++ xs)) h))
      cases rest false h false =
          cond-false (some_pass test (xs ++ ys)) (x ∷ added test new (xs ++ ys)) (x ∷ (xs ++ ys)) (whole false h)
          ∙ sym (ap (λ r. r ++ ys) (cond-false (some_pass test xs) (x ∷ added test new xs) (x ∷ xs) h))

  -- where the last item passes
  pub added-last : (test : X → Bool) (new xs : List X) (x : X) → test x ≡ true → added test new (xs ++ x ∷ []) ≡ (xs ++ x ∷ []) ++ new
  unfolding added some_pass
  added-last test new xs x e =
      added-after test new xs (x ∷ []) (ap (λ b. b || false) e)
      ∙ ap (λ b. xs ++ cond b (x ∷ (new ++ [])) (x ∷ [])) e
      ∙ ap (λ r. xs ++ (x ∷ r)) (append-nil new)
      ∙ sym (append_assoc xs (x ∷ []) new)

  pub exchanged-before : (test : X → Bool) (new xs ys : List X) → some_pass test xs ≡ false → exchanged test new (xs ++ ys) ≡ xs ++ exchanged test new ys
  unfolding exchanged some_pass
  exchanged-before test new [] ys e = refl
  exchanged-before test new (x ∷ xs) ys e =
      let parts = or_parts (test x) (some_pass test xs) e in
      cond-false (test x) (new ++ filter (λ y. not (test y)) (xs ++ ys)) (x ∷ exchanged test new (xs ++ ys)) parts.0
      ∙ ap (λ r. x ∷ r) (exchanged-before test new xs ys parts.1)
