-- Lists, what is found in them, and their names.
use Rattle.std.proofs.Common.{ℕ, ◌≡◌, Bool, true, false, cond, not, ◌&&◌, ◌⊎◌, inl, inr, List, [], ◌∷◌, ◌++◌, map, find, flat_map, option_map, Option, Some, bytes_eq, refl, sym, ap, subst, ◌∙◌}
use Rattle.std.specs.List.{list_all, list_any, AllByRecursion}
use Rattle.std.proofs.lemmas.Bool.{or_parts, and_from, not-true, false≢true}
use Rattle.std.proofs.lemmas.Option.{none-some, same_Some}
use Rattle.std.proofs.lemmas.Slice.Eq.{bytes_eq-Decides}
use Rattle.frag_sem.specs.Modules.{are_distinct}

pub both_true : (a b : Bool) → (a && b) ≡ true → (a ≡ true) × (b ≡ true)
both_true true b h = (refl, h)
both_true false b h = absurd (false≢true h)

-- the first of a list that passes, or the first of the others
pub found_at : {X : Type 0} (b : Bool) (x : X) (others : Option X) (y : X) → cond b (Some x) others ≡ Some y → (x ≡ y) ⊎ (others ≡ Some y)
found_at true x others y h = inl (same_Some x y h)
found_at false x others y h = inr h

-- what is found among those that all have a property has it
pub found_has : {X : Type 0} (test has : X → Bool) (xs : List X) (y : X) → find test xs ≡ Some y → list_all has xs ≡ true → has y ≡ true
found_has test has [] y found all = absurd (none-some y found)
found_has test has (x ∷ xs) y found all =
    let parts = both_true (has x) (list_all has xs) all in
    which (found_at (test x) x (find test xs) y found) parts.0 (λ later. found_has test has xs y later parts.1)
  where
    which : (x ≡ y) ⊎ (find test xs ≡ Some y) → has x ≡ true → (find test xs ≡ Some y → has y ≡ true) → has y ≡ true
    which (inl same) first others = subst (λ z. has z ≡ true) same first
    which (inr later) first others = others later

-- so also where the property is a type
pub found_all : {X : Type 0} (test : X → Bool) (Has : X → Type 0) (xs : List X) (y : X) → find test xs ≡ Some y → AllByRecursion Has xs → Has y
found_all test Has [] y found all = absurd (none-some y found)
found_all test Has (x ∷ xs) y found all = which (found_at (test x) x (find test xs) y found) (λ later. found_all test Has xs y later all.1)
  where
    which : (x ≡ y) ⊎ (find test xs ≡ Some y) → (find test xs ≡ Some y → Has y) → Has y
    which (inl same) others = subst Has same all.0
    which (inr later) others = others later

-- what is found among what a list is mapped to, is what is found there, mapped
pub found_map : {X Y : Type 0} (test : Y → Bool) (f : X → Y) (xs : List X) → find test (map f xs) ≡ option_map f (find (λ x. test (f x)) xs)
found_map test f [] = refl
found_map {X} {Y} test f (x ∷ xs) = by (test (f x)) (found_map test f xs)
  where
    by : (b : Bool) → find test (map f xs) ≡ option_map f (find (λ y. test (f y)) xs) → cond b (Some (f x)) (find test (map f xs)) ≡ option_map f (cond b (Some x) (find (λ y. test (f y)) xs))
    by true more = refl
    by false more = more

pub all_both : {X : Type 0} (has : X → Bool) (xs ys : List X) → list_all has (xs ++ ys) ≡ true → (list_all has xs ≡ true) × (list_all has ys ≡ true)
all_both has [] ys all = (refl, all)
all_both has (x ∷ xs) ys all =
    let parts = both_true (has x) (list_all has (xs ++ ys)) all in
    let more = all_both has xs ys parts.1 in
    (and_from (has x) (list_all has xs) parts.0 more.0, more.1)

-- what all have of two properties, they have of both
pub all_and : {X : Type 0} (p q : X → Bool) (xs : List X) → list_all p xs ≡ true → list_all q xs ≡ true → list_all (λ x. p x && q x) xs ≡ true
all_and p q [] one other = refl
all_and p q (x ∷ xs) one other =
    let first = both_true (p x) (list_all p xs) one in
    let second = both_true (q x) (list_all q xs) other in
    and_from (p x && q x) (list_all (λ y. p y && q y) xs) (and_from (p x) (q x) first.0 second.0) (all_and p q xs first.1 second.1)

-- what follows of each, all have
pub all_weaker : {X : Type 0} (p q : X → Bool) → ((x : X) → p x ≡ true → q x ≡ true) → (xs : List X) → list_all p xs ≡ true → list_all q xs ≡ true
all_weaker p q follows [] all = refl
all_weaker p q follows (x ∷ xs) all =
    let parts = both_true (p x) (list_all p xs) all in
    and_from (q x) (list_all q xs) (follows x parts.0) (all_weaker p q follows xs parts.1)

-- what all that is made of a list has, all has that is made of what is found there
pub found_parts : {X Y : Type 0} (test : X → Bool) (parts : X → List Y) (has : Y → Bool) (xs : List X) (y : X) → find test xs ≡ Some y → list_all has (flat_map parts xs) ≡ true → list_all has (parts y) ≡ true
found_parts test parts has [] y found all = absurd (none-some y found)
found_parts test parts has (x ∷ xs) y found all =
    let both = all_both has (parts x) (flat_map parts xs) all in
    which (found_at (test x) x (find test xs) y found) both.0 (λ later. found_parts test parts has xs y later both.1)
  where
    which : (x ≡ y) ⊎ (find test xs ≡ Some y) → list_all has (parts x) ≡ true → (find test xs ≡ Some y → list_all has (parts y) ≡ true) → list_all has (parts y) ≡ true
    which (inl same) first others = subst (λ z. list_all has (parts z) ≡ true) same first
    which (inr later) first others = others later

-- a list has a property where it has it at each place
pub all_at : {X : Type 0} (has : X → Bool) (xs : List X) → ((front others : List X) (x : X) → xs ≡ front ++ x ∷ others → has x ≡ true) → list_all has xs ≡ true
all_at has [] each = refl
all_at has (x ∷ xs) each =
    and_from (has x) (list_all has xs) (each [] xs x refl) (all_at has xs (λ front others y split. each (x ∷ front) others y (ap (λ rest. x ∷ rest) split)))

-- an equal name is equal the other way round
pub turned : (one other : List ℕ) → bytes_eq one other ≡ false → bytes_eq other one ≡ false
turned one other apart = by (bytes_eq other one) refl
  where
    by : (b : Bool) → bytes_eq other one ≡ b → b ≡ false
    by false is = refl
    by true is = absurd (false≢true (sym apart ∙ (bytes_eq-Decides one other).1 (sym ((bytes_eq-Decides other one).0 is))))

-- where a name stands in a list, it is equal to none that no name is equal to
pub none_at : (name : List ℕ) (front others : List (List ℕ)) (other : List ℕ) → list_any (bytes_eq name) (front ++ other ∷ others) ≡ false → bytes_eq name other ≡ false
none_at name [] others other none = (or_parts (bytes_eq name other) (list_any (bytes_eq name) others) none).0
none_at name (first ∷ front) others other none =
    none_at name front others other (or_parts (bytes_eq name first) (list_any (bytes_eq name) (front ++ other ∷ others)) none).1

pub map-at : {X Y : Type 0} (f : X → Y) (front others : List X) (x : X) → map f (front ++ x ∷ others) ≡ map f front ++ f x ∷ map f others
map-at f [] others x = refl
map-at f (first ∷ front) others x = ap (λ rest. f first ∷ rest) (map-at f front others x)

-- among distinct names each finds its own
pub own_found : {X : Type 0} (name : X → List ℕ) (front others : List X) (x : X) → are_distinct bytes_eq (map name (front ++ x ∷ others)) ≡ true → find (λ y. bytes_eq (name x) (name y)) (front ++ x ∷ others) ≡ Some x
unfolding are_distinct
own_found name [] others x distinct = rw ((bytes_eq-Decides (name x) (name x)).1 refl) refl
own_found name (first ∷ front) others x distinct =
    let parts = both_true (not (list_any (bytes_eq (name first)) (map name (front ++ x ∷ others)))) (are_distinct bytes_eq (map name (front ++ x ∷ others))) distinct in
    let none = not-true (list_any (bytes_eq (name first)) (map name (front ++ x ∷ others))) parts.0 in
    let apart = none_at (name first) (map name front) (map name others) (name x) (ap (list_any (bytes_eq (name first))) (sym (map-at name front others x)) ∙ none) in
    rw (turned (name first) (name x) apart) (own_found name front others x parts.1)
