-- What is found among the items of a list.
use Rattle.std.proofs.Common.{◌≡◌, Bool, true, false, cond, ◌⊎◌, inl, inr, List, [], ◌∷◌, ◌++◌, filter, find, Some, IfSome, refl, sym, ap, subst, ◌∙◌}
use Rattle.std.specs.List.{AllByRecursion}
use Rattle.std.proofs.lemmas.Option.{none-some}
use Rattle.frag_sem.proofs.Lists.{found_at}

-- one of a list
abbrev pub Among : {X : Type 0} → X → List X → Type 0
Among y [] = ⊥
Among y (x ∷ xs) = (x ≡ y) ⊎ Among y xs

pub found_among : {X : Type 0} (test : X → Bool) (xs : List X) (y : X) → find test xs ≡ Some y → Among y xs
found_among test [] y h = absurd (none-some y h)
found_among test (x ∷ xs) y h = which (found_at (test x) x (find test xs) y h) (found_among test xs y)
  where
    which : (x ≡ y) ⊎ (find test xs ≡ Some y) → (find test xs ≡ Some y → Among y xs) → (x ≡ y) ⊎ Among y xs
    which (inl e) more = inl e
    which (inr e) more = inr (more e)

pub among_filter : {X : Type 0} (test : X → Bool) (xs : List X) (y : X) → Among y (filter test xs) → Among y xs × (test y ≡ true)
among_filter test [] y h = absurd h
among_filter test (x ∷ xs) y h = by (test x) refl h (among_filter test xs y)
  where
    by : (b : Bool) → test x ≡ b → Among y (cond b (x ∷ filter test xs) (filter test xs)) → (Among y (filter test xs) → Among y xs × (test y ≡ true)) → ((x ≡ y) ⊎ Among y xs) × (test y ≡ true)
    by true e (inl same) more = (inl same, ap test (sym same) ∙ e)
    by true e (inr later) more = let m = more later in (inr m.0, m.1)
    by false e later more = let m = more later in (inr m.0, m.1)

pub all_among : {X : Type 0} (P : X → Type 0) (xs : List X) (y : X) → AllByRecursion P xs → Among y xs → P y
all_among P [] y all h = absurd h
all_among P (x ∷ xs) y all (inl same) = subst P same all.0
all_among P (x ∷ xs) y all (inr later) = all_among P xs y all.1 later

pub all_found : {X : Type 0} (P : X → Type 0) (test : X → Bool) (xs : List X) → AllByRecursion P xs → IfSome (find test xs) P
all_found P test [] all = tt
all_found P test (x ∷ xs) all = by (test x) (all_found P test xs all.1)
  where
    by : (b : Bool) → IfSome (find test xs) P → IfSome (cond b (Some x) (find test xs)) P
    by true more = all.0
    by false more = more

pub all_joined : {X : Type 0} (P : X → Type 0) (xs ys : List X) → AllByRecursion P xs → AllByRecursion P ys → AllByRecursion P (xs ++ ys)
all_joined P [] ys p q = q
all_joined P (x ∷ xs) ys p q = (p.0, all_joined P xs ys p.1 q)

pub none_passes : {X : Type 0} (test : X → Bool) (xs : List X) → ((x : X) → Among x xs → test x ≡ false) → filter test xs ≡ []
none_passes test [] none = refl
none_passes test (x ∷ xs) none = rw (none x (inl refl)) (none_passes test xs (λ y h. none y (inr h)))
