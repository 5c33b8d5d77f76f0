-- A stable order by a number.
use Rattle.std.proofs.Common.{◌≡◌, ℕ, zero, suc, ◌<◌, ◌≤◌, Bool, true, false, cond, nat_le, List, [], ◌∷◌, length, get_or, filter, map, nat_cmp, is_lt, refl, sym, ap, ◌∙◌, arith, inl, inr, suc-le-suc, zero-le}
use Rattle.std.proofs.lemmas.Bool.{cond-true, cond-false, cases_Bool}
use Rattle.std.proofs.lemmas.Bool.Decides.{nat_tests}
use Rattle.std.specs.List.{AllByRecursion}
use Rattle.std.specs.List.Sorted.{ties, IsNonDecreasingBy, IsStableByKey}
use Rattle.patch_sem.specs.Arrays.{ordered_by, put_in}

ties_at : (m n : ℕ) → (ties (λ x y. is_lt (nat_cmp x y)) m n ≡ true → m ≡ n) × (m ≡ n → ties (λ x y. is_lt (nat_cmp x y)) m n ≡ true)
ties_at m n = (λ h. grind (arith, nat_tests), λ h. grind (arith, nat_tests))

below : (m n : ℕ) → nat_le m n ≡ true → m ≤ n
below m n h = grind (arith, nat_tests)

above : (m n : ℕ) → nat_le m n ≡ false → n < m
above m n h = grind (arith, nat_tests)

filter-kept : {A : Type 0} (p : A → Bool) (y : A) (ys : List A) → p y ≡ true → filter p (y ∷ ys) ≡ y ∷ filter p ys
filter-kept p y ys h = cond-true _ _ _ h

filter-dropped : {A : Type 0} (p : A → Bool) (y : A) (ys : List A) → p y ≡ false → filter p (y ∷ ys) ≡ filter p ys
filter-dropped p y ys h = cond-false _ _ _ h

-- what all have, all have in their order
pub all_put : {A : Type 0} (P : A → Type 0) (key : A → ℕ) (x : A) (ys : List A) → P x → AllByRecursion P ys → AllByRecursion P (put_in key x ys)
unfolding put_in
all_put P key x [] h all = (h, tt)
all_put P key x (y ∷ ys) h all = by (nat_le (key x) (key y)) (all_put P key x ys h all.1)
  where
    by : (b : Bool) → AllByRecursion P (put_in key x ys) → AllByRecursion P (cond b (x ∷ (y ∷ ys)) (y ∷ put_in key x ys))
    by true more = (h, all)
    by false more = (all.0, more)

pub all_ordered : {A : Type 0} (P : A → Type 0) (key : A → ℕ) (xs : List A) → AllByRecursion P xs → AllByRecursion P (ordered_by key xs)
unfolding ordered_by
all_ordered P key [] all = tt
all_ordered P key (x ∷ xs) all = all_put P key x (ordered_by key xs) all.0 (all_ordered P key xs all.1)

module _ {A : Type 0} (key : A → ℕ) where
  abbrev same : A → A → Bool
  same = ties (λ x y. is_lt (nat_cmp (key x) (key y)))

  same-true : (x y : A) → same x y ≡ true → key x ≡ key y
  same-true x y = (ties_at (key x) (key y)).0

  same_from : (x y : A) → key x ≡ key y → same x y ≡ true
  same_from x y = (ties_at (key x) (key y)).1

  -- ---- the order rises

  abbrev AtLeast : ℕ → List A → Type 0
  AtLeast n ys = AllByRecursion (λ y. n ≤ key y) ys

  abbrev Rises : List A → Type 0
  Rises [] = Unit {0}
  Rises (y ∷ ys) = AtLeast (key y) ys × Rises ys

  lower : (n m : ℕ) (ys : List A) → n ≤ m → AtLeast m ys → AtLeast n ys
  lower n m [] le h = tt
  lower n m (y ∷ ys) le h = let first = h.0 in (omega arith, lower n m ys le h.1)

  -- both ways: each of a list, and each at an index
  least_at : (n : ℕ) (ys : List A) → ((j : ℕ) (d : A) → j < length ys → n ≤ key (get_or ys j d)) → AtLeast n ys
  least_at n [] h = tt
  least_at n (y ∷ ys) h = (h zero y (suc-le-suc zero-le), least_at n ys (λ j d lt. h (suc j) d (suc-le-suc lt)))

  at_least : (n : ℕ) (ys : List A) → AtLeast n ys → (j : ℕ) (d : A) → j < length ys → n ≤ key (get_or ys j d)
  at_least n [] h j d lt = absurd (omega (arith, lt))
  at_least n (y ∷ ys) h zero d lt = h.0
  at_least n (y ∷ ys) h (suc j) d lt = at_least n ys h.1 j d (omega (arith, lt))

  rises_sorted : (ys : List A) → IsNonDecreasingBy key ys → Rises ys
  rises_sorted [] h = tt
  rises_sorted (y ∷ ys) h = (
    least_at (key y) ys (λ j d lt. h zero (suc j) d zero-le (suc-le-suc lt)),
    rises_sorted ys (λ i j d le lt. h (suc i) (suc j) d (suc-le-suc le) (suc-le-suc lt)),
  )

  sorted_rises : (ys : List A) → Rises ys → IsNonDecreasingBy key ys
  sorted_rises [] h i j d le lt = absurd (omega (arith, lt))
  sorted_rises (y ∷ ys) h zero zero d le lt = omega arith
  sorted_rises (y ∷ ys) h zero (suc j) d le lt = at_least (key y) ys h.0 j d (omega (arith, lt))
  sorted_rises (y ∷ ys) h (suc i) zero d le lt = absurd (omega (arith, le))
  sorted_rises (y ∷ ys) h (suc i) (suc j) d le lt = sorted_rises ys h.1 i j d (omega (arith, le)) (omega (arith, lt))

  rises_put : (x : A) (ys : List A) → Rises ys → Rises (put_in key x ys)
  unfolding put_in
  rises_put x [] h = (tt, tt)
  rises_put x (y ∷ ys) h = by (nat_le (key x) (key y)) refl (rises_put x ys h.1)
    where
      by : (b : Bool) → nat_le (key x) (key y) ≡ b → Rises (put_in key x ys) → Rises (cond b (x ∷ (y ∷ ys)) (y ∷ put_in key x ys))
      by true e more = let le = below (key x) (key y) e in ((le, lower (key x) (key y) ys le h.0), h)
      by false e more = let less = above (key x) (key y) e in (all_put (λ z. key y ≤ key z) key x ys (omega arith) h.0, more)

  rises_ordered : (xs : List A) → Rises (ordered_by key xs)
  unfolding ordered_by
  rises_ordered [] = tt
  rises_ordered (x ∷ xs) = rises_put x (ordered_by key xs) (rises_ordered xs)

  -- ---- those that tie stay as they stood

  filter-put : (x c : A) (ds : List A) → filter (same x) (put_in key c ds) ≡ filter (same x) (c ∷ ds)
  unfolding put_in
  filter-put x c [] = refl
  filter-put x c (d ∷ ds) = by (nat_le (key c) (key d)) refl (filter-put x c ds)
    where
      swapped : (p q : Bool) (rest : List A) → (p ≡ true → q ≡ true → ⊥) → cond p (d ∷ cond q (c ∷ rest) rest) (cond q (c ∷ rest) rest) ≡ cond q (c ∷ cond p (d ∷ rest) rest) (cond p (d ∷ rest) rest)
      swapped true true rest apart = absurd (apart refl refl)
      swapped true false rest apart = refl
      swapped false true rest apart = refl
      swapped false false rest apart = refl

      strictly : nat_le (key c) (key d) ≡ false → key c ≡ key d → ⊥
      strictly e h = let less = above (key c) (key d) e in omega arith

      by : (b : Bool) → nat_le (key c) (key d) ≡ b → filter (same x) (put_in key c ds) ≡ filter (same x) (c ∷ ds) → filter (same x) (cond b (c ∷ (d ∷ ds)) (d ∷ put_in key c ds)) ≡ filter (same x) (c ∷ (d ∷ ds))
      by true e more = refl
      by false e more =
          ap (λ l. cond (same x d) (d ∷ l) l) more
          ∙ swapped (same x d) (same x c) (filter (same x) ds) (λ p q. strictly e (sym (same-true x c q) ∙ same-true x d p))

  filter-ordered : (x : A) (cs : List A) → filter (same x) (ordered_by key cs) ≡ filter (same x) cs
  unfolding ordered_by
  filter-ordered x [] = refl
  filter-ordered x (c ∷ cs) = filter-put x c (ordered_by key cs) ∙ ap (λ l. cond (same x c) (c ∷ l) l) (filter-ordered x cs)

  -- ---- no two lists do both

  least_found : (n : ℕ) (x : A) (ys : List A) (w : A) (ws : List A) → AtLeast n ys → filter (same x) ys ≡ w ∷ ws → n ≤ key x
  least_found n x [] w ws h e = cc
  least_found n x (y ∷ ys) w ws h e =
      elim (cases_Bool (same x y)) [
        | inl with ↦ omega (arith, h.0, same-true x y with)
        | inr without ↦ least_found n x ys w ws h.1 (sym (filter-dropped (same x) y ys without) ∙ e)
      ]

  alike : (ys zs : List A) → Rises ys → Rises zs → ((x : A) → filter (same x) ys ≡ filter (same x) zs) → ys ≡ zs
  alike [] [] left right tied = refl
  alike [] (z ∷ zs) left right tied =
      let clash = tied z ∙ filter-kept (same z) z zs (same_from z z refl) in cc
  alike (y ∷ ys) [] left right tied =
      let clash = sym (tied y) ∙ filter-kept (same y) y ys (same_from y y refl) in cc
  alike (y ∷ ys) (z ∷ zs) left right tied =
      let at_y = filter-kept (same y) y ys (same_from y y refl) in
      let at_z = filter-kept (same z) z zs (same_from z z refl) in
      let up = least_found (key z) y (z ∷ zs) y _ (omega arith, right.0) (sym (tied y) ∙ at_y) in
      let down = least_found (key y) z (y ∷ ys) z _ (omega arith, left.0) (tied z ∙ at_z) in
      let heads = sym at_y ∙ tied y ∙ filter-kept (same y) z zs (same_from y z (omega arith)) in
      let head : y ≡ z = cc in
      let tails : (x : A) → filter (same x) ys ≡ filter (same x) zs =
      λ x. elim (cases_Bool (same x y)) [
        | inl with ↦
            let both = sym (filter-kept (same x) y ys with) ∙ tied x ∙ filter-kept (same x) z zs (ap (same x) (sym head) ∙ with) in cc
        | inr without ↦
            sym (filter-dropped (same x) y ys without) ∙ tied x ∙ filter-dropped (same x) z zs (ap (same x) (sym head) ∙ without)
      ] in
      ap (λ w. w ∷ ys) head ∙ ap (λ l. z ∷ l) (alike ys zs left.1 right.1 tails)

  -- what is sorted, and stable, is the order
  pub sorted_is : (xs ys : List A) → IsNonDecreasingBy key ys → IsStableByKey key nat_cmp xs ys → ys ≡ ordered_by key xs
  sorted_is xs ys sorted stable =
      alike ys (ordered_by key xs) (rises_sorted ys sorted) (rises_ordered xs) (λ x. stable x ∙ sym (filter-ordered x xs))

-- the order of what is made of items is made of their order
put_map : {A B : Type 0} (f : A → B) (key : B → ℕ) (x : A) (ys : List A) → map f (put_in (λ y. key (f y)) x ys) ≡ put_in key (f x) (map f ys)
unfolding put_in
put_map f key x [] = refl
put_map f key x (y ∷ ys) = by (nat_le (key (f x)) (key (f y))) (put_map f key x ys)
  where
    by : (b : Bool) → map f (put_in (λ y. key (f y)) x ys) ≡ put_in key (f x) (map f ys) → map f (cond b (x ∷ (y ∷ ys)) (y ∷ put_in (λ y. key (f y)) x ys)) ≡ cond b (f x ∷ (f y ∷ map f ys)) (f y ∷ put_in key (f x) (map f ys))
    by true more = refl
    by false more = ap (λ l. f y ∷ l) more

pub ordered_map : {A B : Type 0} (f : A → B) (key : B → ℕ) (xs : List A) → map f (ordered_by (λ y. key (f y)) xs) ≡ ordered_by key (map f xs)
unfolding ordered_by
ordered_map f key [] = refl
ordered_map f key (x ∷ xs) = put_map f key x (ordered_by (λ y. key (f y)) xs) ∙ ap (put_in key (f x)) (ordered_map f key xs)
