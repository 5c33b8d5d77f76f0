-- Lemmas on lists: filters, maps, and what stands after the last or in the place of what passes a test.
use Rattle.std.proofs.lemmas.List.{take_more_set, take_more, map-append, take_at, drop_at, length-take-le, set_split}
use Rattle.std.specs.List.{insert, remove}
use Rattle.std.proofs.Common.{suc, drop, arith, sym, ◌++◌, ap₂, ℕ, ◌+◌, ◌<◌, take, set, get_or, length, ◌≡◌, Bool, true, false, cond, List, [], ◌∷◌, map, filter, refl, ap, ◌∙◌}

pub filter-map : {X Y : Type 0} (p : Y → Bool) (f : X → Y) (xs : List X) → filter p (map f xs) ≡ map f (filter (λ x. p (f x)) xs)
filter-map p f [] = refl
filter-map p f (x ∷ xs) = filter-map-at p f x xs (p (f x)) (filter-map p f xs)
  where
    filter-map-at : {X Y : Type 0} (p : Y → Bool) (f : X → Y) (x : X) (xs : List X) (b : Bool) → filter p (map f xs) ≡ map f (filter (λ x. p (f x)) xs) → cond b (f x ∷ filter p (map f xs)) (filter p (map f xs)) ≡ map f (cond b (x ∷ filter (λ x. p (f x)) xs) (filter (λ x. p (f x)) xs))
    filter-map-at p f x xs true e = ap (λ r. f x ∷ r) e
    filter-map-at p f x xs false e = e

pub map-map : {X Y Z : Type 0} (f : Y → Z) (g : X → Y) (xs : List X) → map f (map g xs) ≡ map (λ x. f (g x)) xs
map-map f g [] = refl
map-map f g (x ∷ xs) = ap (λ r. f (g x) ∷ r) (map-map f g xs)

pub map_agree : {X Y : Type 0} (f g : X → Y) (same : (x : X) → f x ≡ g x) (xs : List X) → map f xs ≡ map g xs
map_agree f g same [] = refl
map_agree f g same (x ∷ xs) = ap (λ y. y ∷ map f xs) (same x) ∙ ap (λ r. g x ∷ r) (map_agree f g same xs)

pub filter_all : {X : Type 0} (p : X → Bool) (each : (x : X) → p x ≡ true) (xs : List X) → filter p xs ≡ xs
filter_all p each [] = refl
filter_all p each (x ∷ xs) = ap (λ b. cond b (x ∷ filter p xs) (filter p xs)) (each x) ∙ ap (λ r. x ∷ r) (filter_all p each xs)

pub filter_none : {X : Type 0} (p : X → Bool) (each : (x : X) → p x ≡ false) (xs : List X) → filter p xs ≡ []
filter_none p each [] = refl
filter_none p each (x ∷ xs) = ap (λ b. cond b (x ∷ filter p xs) (filter p xs)) (each x) ∙ filter_none p each xs

-- one more item of a list that is edited from the front: what is seen of the front is what is made of the old
-- one
pub map-take_set : {A X : Type 0} (seen made : A → X) (xs ys : List A) (i : ℕ) (y old : A) → i < length xs → i < length ys → map seen (take i xs) ≡ map made (take i ys) → get_or ys i old ≡ old → seen y ≡ made old → map seen (take (i + 1) (set xs i y)) ≡ map made (take (i + 1) ys)
map-take_set seen made xs ys i y old within_xs within_ys so_far is_old here =
    ap (map seen) (take_more_set xs i y within_xs)
    ∙ map-append seen (take i xs) (y ∷ [])
    ∙ ap₂ (λ a b. a ++ b ∷ []) so_far (here ∙ ap made (sym is_old))
    ∙ sym (ap (map made) (take_more ys i old within_ys) ∙ map-append made (take i ys) (get_or ys i old ∷ []))

-- an item that is taken out, and another put in its place
pub insert-remove : {X : Type 0} (xs : List X) (i : ℕ) (y : X) → i < length xs → insert (remove xs i) i y ≡ set xs i y
insert-remove xs i y within =
    let before : length (take i xs) ≡ i = length-take-le i xs (omega arith) in
    ap₂ (λ a b. a ++ y ∷ b) (take_at (take i xs) (drop (suc i) xs) i before) (drop_at (take i xs) (drop (suc i) xs) i before)
    ∙ sym (set_split xs i y within)
