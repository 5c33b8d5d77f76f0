-- An exchange of some items of a list for others, and what it leaves of the items before and behind them.
use Rattle.std.proofs.Common.{◌≡◌, Bool, true, false, not, cond, List, [], ◌∷◌, ◌++◌, map, filter, reverse, refl, sym, ap, ap₂, ◌∙◌, subst, append_assoc}
use Rattle.std.specs.List.{AllByRecursion, flat_map}
use Rattle.std.proofs.lemmas.Grind.{flat_map-append}
use Rattle.std.proofs.lemmas.List.{reverse-append, map-append}
use Rattle.std.proofs.lemmas.List.Elements.{filter-append}
use Rattle.svd_rows.specs.RowEdits.{exchanged}
use Rattle.svd_rows.proofs.Lists.{filter-map}

-- ---- lists

module _ {X : Type 0} (P : X → Type 0) where
  pub every-append : (xs ys : List X) → AllByRecursion P xs → AllByRecursion P ys → AllByRecursion P (xs ++ ys)
  every-append [] ys h k = k
  every-append (x ∷ xs) ys h k = (h.0, every-append xs ys h.1 k)

  pub every-left : (xs ys : List X) → AllByRecursion P (xs ++ ys) → AllByRecursion P xs
  every-left [] ys h = tt
  every-left (x ∷ xs) ys h = (h.0, every-left xs ys h.1)

  pub every-right : (xs ys : List X) → AllByRecursion P (xs ++ ys) → AllByRecursion P ys
  every-right [] ys h = h
  every-right (x ∷ xs) ys h = every-right xs ys h.1

  pub every-reverse : (xs : List X) → AllByRecursion P xs → AllByRecursion P (reverse xs)
  every-reverse [] h = tt
  every-reverse (x ∷ xs) h =
      subst (AllByRecursion P) (sym (reverse-append (x ∷ []) xs)) (every-append (reverse xs) (x ∷ []) (every-reverse xs h.1) (h.0, tt))

  pub every-map : {Y : Type 0} (f : Y → X) → ((y : Y) → P (f y)) → (ys : List Y) → AllByRecursion P (map f ys)
  every-map f each [] = tt
  every-map f each (y ∷ ys) = (each y, every-map f each ys)

  pub every-weaker : (Q : X → Type 0) → ((x : X) → P x → Q x) → (xs : List X) → AllByRecursion P xs → AllByRecursion Q xs
  every-weaker Q weaker [] h = tt
  every-weaker Q weaker (x ∷ xs) h = (weaker x h.0, every-weaker Q weaker xs h.1)

pub map-flat_map : {X Y Z : Type 0} (f : Y → Z) (g : X → List Y) (xs : List X) → map f (flat_map g xs) ≡ flat_map (λ x. map f (g x)) xs
map-flat_map f g [] = refl
map-flat_map f g (x ∷ xs) = map-append f (g x) (flat_map g xs) ∙ ap (λ r. map f (g x) ++ r) (map-flat_map f g xs)

pub flat_map-agree : {X Y : Type 0} (f g : X → List Y) → ((x : X) → f x ≡ g x) → (xs : List X) → flat_map f xs ≡ flat_map g xs
flat_map-agree f g same [] = refl
flat_map-agree f g same (x ∷ xs) = ap₂ (λ a b. a ++ b) (same x) (flat_map-agree f g same xs)

pub flat_map-flat_map : {X Y Z : Type 0} (f : Y → List Z) (g : X → List Y) (xs : List X) → flat_map f (flat_map g xs) ≡ flat_map (λ x. flat_map f (g x)) xs
flat_map-flat_map f g [] = refl
flat_map-flat_map f g (x ∷ xs) = flat_map-append f (g x) (flat_map g xs) ∙ ap (λ r. flat_map f (g x) ++ r) (flat_map-flat_map f g xs)

pub map-reverse : {X Y : Type 0} (f : X → Y) (xs : List X) → map f (reverse xs) ≡ reverse (map f xs)
map-reverse f [] = refl
map-reverse f (x ∷ xs) =
    ap (map f) (reverse-append (x ∷ []) xs)
    ∙ map-append f (reverse xs) (x ∷ [])
    ∙ ap (λ r. r ++ f x ∷ []) (map-reverse f xs)
    ∙ sym (reverse-append (f x ∷ []) (map f xs))

-- ---- an exchange within a list

module _ {X : Type 0} (test : X → Bool) where
  abbrev Fails : X → Type 0
  Fails x = test x ≡ false

  pub none-pass : (xs : List X) → AllByRecursion Fails xs → filter test xs ≡ []
  none-pass [] h = refl
  none-pass (x ∷ xs) h = ap (λ b. cond b (x ∷ filter test xs) (filter test xs)) h.0 ∙ none-pass xs h.1

  all-stay : (xs : List X) → AllByRecursion Fails xs → filter (λ x. not (test x)) xs ≡ xs
  all-stay [] h = refl
  all-stay (x ∷ xs) h = ap (λ b. cond (not b) (x ∷ filter (λ x. not (test x)) xs) (filter (λ x. not (test x)) xs)) h.0 ∙ ap (λ r. x ∷ r) (all-stay xs h.1)

  none-exchanged : (new xs : List X) → AllByRecursion Fails xs → exchanged test new xs ≡ xs
  unfolding exchanged
  none-exchanged new [] h = refl
  none-exchanged new (x ∷ xs) h = ap (λ b. cond b (new ++ filter (λ y. not (test y)) xs) (x ∷ exchanged test new xs)) h.0 ∙ ap (λ r. x ∷ r) (none-exchanged new xs h.1)

  pub exchanged-behind : (new xs ys : List X) → AllByRecursion Fails xs → exchanged test new (xs ++ ys) ≡ xs ++ exchanged test new ys
  unfolding exchanged
  exchanged-behind new [] ys h = refl
  exchanged-behind new (x ∷ xs) ys h =
      ap (λ b. cond b (new ++ filter (λ y. not (test y)) (xs ++ ys)) (x ∷ exchanged test new (xs ++ ys))) h.0 ∙ ap (λ r. x ∷ r) (exchanged-behind new xs ys h.1)

  pub exchanged-before : (new xs ys : List X) → AllByRecursion Fails ys → exchanged test new (xs ++ ys) ≡ exchanged test new xs ++ ys
  unfolding exchanged
  exchanged-before new [] ys h = none-exchanged new ys h
  exchanged-before new (x ∷ xs) ys h = cases (test x) (exchanged-before new xs ys h)
    where
      stay : List X
      stay = filter (λ y. not (test y)) xs

      cases : (b : Bool) → exchanged test new (xs ++ ys) ≡ exchanged test new xs ++ ys → cond b (new ++ filter (λ y. not (test y)) (xs ++ ys)) (x ∷ exchanged test new (xs ++ ys)) ≡ cond b (new ++ stay) (x ∷ exchanged test new xs) ++ ys
      cases true e =
          ap (λ r. new ++ r) (filter-append (λ y. not (test y)) xs ys ∙ ap (λ r. stay ++ r) (all-stay ys h)) ∙ sym (append_assoc new stay ys)
      cases false e = ap (λ r. x ∷ r) e

pub exchanged-map : {X Y : Type 0} (test : Y → Bool) (f : X → Y) (new xs : List X) → exchanged test (map f new) (map f xs) ≡ map f (exchanged (λ x. test (f x)) new xs)
unfolding exchanged
exchanged-map test f new [] = refl
exchanged-map test f new (x ∷ xs) = cases (test (f x)) (exchanged-map test f new xs)
  where
    cases : (b : Bool) → exchanged test (map f new) (map f xs) ≡ map f (exchanged (λ x. test (f x)) new xs) → cond b (map f new ++ filter (λ y. not (test y)) (map f xs)) (f x ∷ exchanged test (map f new) (map f xs)) ≡ map f (cond b (new ++ filter (λ x. not (test (f x))) xs) (x ∷ exchanged (λ x. test (f x)) new xs))
    cases true e = ap (λ r. map f new ++ r) (filter-map (λ y. not (test y)) f xs) ∙ sym (map-append f new (filter (λ x. not (test (f x))) xs))
    cases false e = ap (λ r. f x ∷ r) e
