-- Lists each of whose items has a property, and what is made of their items.
use Rattle.std.proofs.Common.{◌≡◌, Bool, true, false, cond, not, ◌||◌, List, [], ◌∷◌, ◌++◌, map, filter, find, Option, None, Some, option_map, refl, ap, ap₂, ◌∙◌}
use Rattle.std.specs.List.{AllByRecursion, list_any}
use Rattle.svd_rows.specs.RowEdits.{exchanged}

pub each_so : {A : Type 0} (P Q : A → Type 0) → ((x : A) → P x → Q x) → (xs : List A) → AllByRecursion P xs → AllByRecursion Q xs
each_so P Q so [] h = tt
each_so P Q so (x ∷ xs) h = (so x h.0, each_so P Q so xs h.1)

pub each_both : {A : Type 0} (P Q R : A → Type 0) → ((x : A) → P x → Q x → R x) → (xs : List A) → AllByRecursion P xs → AllByRecursion Q xs → AllByRecursion R xs
each_both P Q R so [] h k = tt
each_both P Q R so (x ∷ xs) h k = (so x h.0 k.0, each_both P Q R so xs h.1 k.1)

pub each_map : {A B : Type 0} (P : B → Type 0) (g : A → B) (xs : List A) → AllByRecursion P (map g xs) → AllByRecursion (λ x. P (g x)) xs
each_map P g [] h = tt
each_map P g (x ∷ xs) h = (h.0, each_map P g xs h.1)

pub each_kept : {A : Type 0} (P : A → Type 0) (p : A → Bool) (xs : List A) → AllByRecursion P xs → AllByRecursion P (filter p xs)
each_kept P p [] h = tt
each_kept P p (x ∷ xs) h = cases (p x) (each_kept P p xs h.1)
  where
    cases : (b : Bool) → AllByRecursion P (filter p xs) → AllByRecursion P (cond b (x ∷ filter p xs) (filter p xs))
    cases true more = (h.0, more)
    cases false more = more

pub each_passes : {A : Type 0} (p : A → Bool) (xs : List A) → AllByRecursion (λ x. p x ≡ true) (filter p xs)
each_passes p [] = tt
each_passes p (x ∷ xs) = cases (p x) refl (each_passes p xs)
  where
    cases : (b : Bool) → p x ≡ b → AllByRecursion (λ y. p y ≡ true) (filter p xs) → AllByRecursion (λ y. p y ≡ true) (cond b (x ∷ filter p xs) (filter p xs))
    cases true e more = (e, more)
    cases false e more = more

pub each_append : {A : Type 0} (P : A → Type 0) (xs ys : List A) → AllByRecursion P xs → AllByRecursion P ys → AllByRecursion P (xs ++ ys)
each_append P [] ys h k = k
each_append P (x ∷ xs) ys h k = (h.0, each_append P xs ys h.1 k)

pub each_exchanged : {A : Type 0} (P : A → Type 0) (p : A → Bool) (new xs : List A) → AllByRecursion P new → AllByRecursion P xs → AllByRecursion P (exchanged p new xs)
unfolding exchanged
each_exchanged P p new [] h k = tt
each_exchanged P p new (x ∷ xs) h k = cases (p x) (each_exchanged P p new xs h k.1)
  where
    cases : (b : Bool) → AllByRecursion P (exchanged p new xs) → AllByRecursion P (cond b (new ++ filter (λ y. not (p y)) xs) (x ∷ exchanged p new xs))
    cases true more = each_append P new (filter (λ y. not (p y)) xs) h (each_kept P (λ y. not (p y)) xs k.1)
    cases false more = (k.0, more)

pub map-each : {A B : Type 0} (f g : A → B) (xs : List A) → AllByRecursion (λ x. f x ≡ g x) xs → map f xs ≡ map g xs
map-each f g [] h = refl
map-each f g (x ∷ xs) h = ap₂ (λ y ys. y ∷ ys) h.0 (map-each f g xs h.1)

pub filter-each : {A B : Type 0} (p : B → Bool) (q : A → Bool) (g : A → B) (xs : List A) → AllByRecursion (λ x. p (g x) ≡ q x) xs → filter p (map g xs) ≡ map g (filter q xs)
filter-each p q g [] h = refl
filter-each p q g (x ∷ xs) h = ap (λ (b : Bool). cond b (g x ∷ filter p (map g xs)) (filter p (map g xs))) h.0 ∙ cases (q x) (filter-each p q g xs h.1)
  where
    cases : (b : Bool) → filter p (map g xs) ≡ map g (filter q xs) → cond b (g x ∷ filter p (map g xs)) (filter p (map g xs)) ≡ map g (cond b (x ∷ filter q xs) (filter q xs))
    cases true more = ap (λ r. g x ∷ r) more
    cases false more = more

pub any-each : {A B : Type 0} (p : B → Bool) (q : A → Bool) (g : A → B) (xs : List A) → AllByRecursion (λ x. p (g x) ≡ q x) xs → list_any p (map g xs) ≡ list_any q xs
any-each p q g [] h = refl
any-each p q g (x ∷ xs) h = ap₂ (λ (a b : Bool). a || b) h.0 (any-each p q g xs h.1)

pub find-each : {A B : Type 0} (p : B → Bool) (q : A → Bool) (g : A → B) (xs : List A) → AllByRecursion (λ x. p (g x) ≡ q x) xs → find p (map g xs) ≡ option_map g (find q xs)
find-each p q g [] h = refl
find-each p q g (x ∷ xs) h = ap (λ (b : Bool). cond b (Some (g x)) (find p (map g xs))) h.0 ∙ cases (q x) (find-each p q g xs h.1)
  where
    cases : (b : Bool) → find p (map g xs) ≡ option_map g (find q xs) → cond b (Some (g x)) (find p (map g xs)) ≡ option_map g (cond b (Some x) (find q xs))
    cases true more = refl
    cases false more = more

pub option_map-map : {A B C : Type 0} (f : B → C) (g : A → B) (o : Option A) → option_map f (option_map g o) ≡ option_map (λ x. f (g x)) o
option_map-map f g None = refl
option_map-map f g (Some x) = refl

pub each_from : {A B : Type 0} (P : B → Type 0) (g : A → B) (xs : List A) → AllByRecursion (λ x. P (g x)) xs → AllByRecursion P (map g xs)
each_from P g [] h = tt
each_from P g (x ∷ xs) h = (h.0, each_from P g xs h.1)
