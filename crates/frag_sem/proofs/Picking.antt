-- What is picked from a list of named parts.
use Rattle.std.proofs.Common.{ℕ, ◌≡◌, Bool, true, false, cond, not, List, [], ◌∷◌, ◌++◌, map, find, flat_map, filter_map, slice_get, Option, Some, None, option_map, option_and_then, bytes_eq, refl, ap, ◌∙◌, append-nil}
use Rattle.std.specs.Prelude.{if◌then◌else◌, unwrap_or}
use Rattle.std.specs.List.{list_any, cons_option}
use Rattle.std.proofs.lemmas.Bool.{or_parts, not-true}
use Rattle.std.proofs.lemmas.List.Elements.{filter_map-append}
use Rattle.std.proofs.lemmas.Slice.Eq.{bytes_eq-Decides}
use Rattle.frag_sem.specs.Modules.{are_distinct}
use Rattle.frag_sem.proofs.Lists.{both_true}

-- no name of the list is the one that is sought
pub none_named : {X : Type 0} (name : X → List ℕ) (wanted : List ℕ) (xs : List X) → list_any (bytes_eq wanted) (map name xs) ≡ false → find (λ x. bytes_eq wanted (name x)) xs ≡ None
none_named name wanted [] none = refl
none_named name wanted (x ∷ xs) none =
    let parts = or_parts (bytes_eq wanted (name x)) (list_any (bytes_eq wanted) (map name xs)) none in
    rw parts.0 (none_named name wanted xs parts.1)

-- Where the names are distinct, and only what has the name is picked, the parts of the one that has it are.
pub selected : {X E F : Type 0} (name : X → List ℕ) (entries : X → List E) (parts : X → List F) (pick : E → Option F) (wanted : List ℕ) → ((x : X) → filter_map pick (entries x) ≡ (if bytes_eq wanted (name x) then parts x else [])) → (xs : List X) → are_distinct bytes_eq (map name xs) ≡ true → filter_map pick (flat_map entries xs) ≡ unwrap_or (option_map parts (find (λ x. bytes_eq wanted (name x)) xs)) []
unfolding are_distinct
selected name entries parts pick wanted each [] distinct = refl
selected {X} {E} {F} name entries parts pick wanted each (x ∷ xs) distinct =
    let apart = both_true (not (list_any (bytes_eq (name x)) (map name xs))) (are_distinct bytes_eq (map name xs)) distinct in
    let none = not-true (list_any (bytes_eq (name x)) (map name xs)) apart.0 in
    filter_map-append pick (entries x) (flat_map entries xs)
    ∙ (ap (λ picked. picked ++ filter_map pick (flat_map entries xs)) (each x)
    ∙ by (bytes_eq wanted (name x)) refl none (selected name entries parts pick wanted each xs apart.1))
  where
    by : (b : Bool) → bytes_eq wanted (name x) ≡ b → list_any (bytes_eq (name x)) (map name xs) ≡ false → filter_map pick (flat_map entries xs) ≡ unwrap_or (option_map parts (find (λ y. bytes_eq wanted (name y)) xs)) [] → (if b then parts x else []) ++ filter_map pick (flat_map entries xs) ≡ unwrap_or (option_map parts (cond b (Some x) (find (λ y. bytes_eq wanted (name y)) xs))) []
    by false is none more = more
    by true is none more =
        let same : wanted ≡ name x = (bytes_eq-Decides wanted (name x)).0 is in
        let others = none_named name wanted xs (ap (λ n. list_any (bytes_eq n) (map name xs)) same ∙ none) in
        ap (λ picked. parts x ++ picked) (more ∙ ap (λ (o : Option X). unwrap_or (option_map parts o) []) others) ∙ append-nil (parts x)

pub filter_map-map : {X Y Z : Type 0} (f : Y → Option Z) (g : X → Y) (xs : List X) → filter_map f (map g xs) ≡ filter_map (λ x. f (g x)) xs
filter_map-map f g [] = refl
filter_map-map f g (x ∷ xs) = ap (cons_option (f (g x))) (filter_map-map f g xs)

-- all are picked, or none
pub picked_all : {X Y : Type 0} (b : Bool) (g : X → Y) (xs : List X) → filter_map (λ x. if b then Some (g x) else None) xs ≡ (if b then map g xs else [])
picked_all true g [] = refl
picked_all true g (x ∷ xs) = ap (λ rest. g x ∷ rest) (picked_all true g xs)
picked_all false g [] = refl
picked_all false g (x ∷ xs) = picked_all false g xs

pub map-same : {X : Type 0} (xs : List X) → map (λ x. x) xs ≡ xs
map-same [] = refl
map-same (x ∷ xs) = ap (λ rest. x ∷ rest) (map-same xs)

pub kept_all : {X : Type 0} (b : Bool) (xs : List X) → filter_map (λ x. if b then Some x else None) xs ≡ (if b then xs else [])
kept_all b xs = picked_all b (λ x. x) xs ∙ ap (λ all. if b then all else []) (map-same xs)

-- the first that passes is the first of those that do
pub first_picked : {X Y : Type 0} (f : X → Option Y) (test : Y → Bool) (xs : List X) → find test (filter_map f xs) ≡ slice_get (filter_map (λ x. option_and_then (λ y. if test y then Some y else None) (f x)) xs) 0
first_picked f test [] = refl
first_picked {X} {Y} f test (x ∷ xs) = by (f x) (first_picked f test xs)
  where
    rest : List Y
    rest = filter_map (λ z. option_and_then (λ y. if test y then Some y else None) (f z)) xs

    passes : (b : Bool) (y : Y) → find test (filter_map f xs) ≡ slice_get rest 0 → cond b (Some y) (find test (filter_map f xs)) ≡ slice_get (cons_option (if b then Some y else None) rest) 0
    passes true y more = refl
    passes false y more = more

    by : (o : Option Y) → find test (filter_map f xs) ≡ slice_get rest 0 → find test (cons_option o (filter_map f xs)) ≡ slice_get (cons_option (option_and_then (λ y. if test y then Some y else None) o) rest) 0
    by None more = more
    by (Some y) more = passes (test y) y more
