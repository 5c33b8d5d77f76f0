-- The first fault that the code finds is the first of the flat rows.
use Rattle.std.proofs.Common.{◌≡◌, List, [], ◌∷◌, ◌++◌, map, filter_map, reverse, Option, None, Some, option_map, refl, sym, ap, ap₂, ◌∙◌, append_assoc}
use Rattle.std.specs.List.{cons_option}
use Rattle.std.specs.Option.{option_or}
use Rattle.std.proofs.lemmas.List.{map-append, reverse-append}
use Rattle.std.proofs.lemmas.List.Elements.{filter_map-append}
use Rattle.dim_expand.specs.declared.fault.Cause.{Cause}
use Rattle.dim_expand.specs.declared.fault.DimFault.{DimFault}
use Rattle.dim_expand.specs.declared.fault.DimFault.TheVariants.{DimZero, DimTooLong, DimNoMark, DimIndexCount, TooMany, Memory}
use Rattle.dim_expand.specs.declared.walk.Found.{Found}
use Rattle.dim_expand.specs.Causes.{cause_at}
use Rattle.dim_expand.specs.Faults.{told, fault_of, cause_of, dimension_faults, first_of, first_past, amount_of, first_fault, IsFirst}
use Rattle.dim_expand.specs.Unfolding.{unfolded_rows}
use Rattle.dim_expand.specs.Walks.{named, found_here, first_in, told_found, fault_in, weighed}
use Rattle.pac_base.specs.declared.path.Step.{Step as Written}
use Rattle.svd_model.specs.declared.counted.Counted.{Counted}
use Rattle.svd_model.specs.Keys.{Key}
use Rattle.svd_model.specs.Stating.{paths_of}
use Rattle.svd_model.specs.Steps.{Step, same_step}
use Rattle.svd_model.specs.Visits.{Visit, visit_at, visits_of, visit_below, visits}
use Rattle.svd_model.proofs.Walking.{walk-rows}
use Rattle.svd_rows.specs.Elements.{IsDistinct}
use Rattle.svd_rows.specs.Forest.{Forest, Tree, leaf, node}
use Rattle.svd_rows.specs.LookUps.{keys_of}
use Rattle.svd_rows.specs.Rows.{Row, rows}
use Rattle.svd_rows.proofs.LookUps.{keys_of-rows}

-- the fault of an element as it is met
of_visit : Visit → Option DimFault
of_visit visit = option_map (fault_of (map told visit.path)) (cause_of visit.path (keys_of visit.own))

filter_map-map : {X Y Z : Type 0} (g : Y → Option Z) (f : X → Y) (xs : List X) → filter_map g (map f xs) ≡ filter_map (λ x. g (f x)) xs
filter_map-map g f [] = refl
filter_map-map {Z = Z} g f (x ∷ xs) = by (g (f x)) (filter_map-map g f xs)
  where
    by : (o : Option Z) → filter_map g (map f xs) ≡ filter_map (λ y. g (f y)) xs → cons_option o (filter_map g (map f xs)) ≡ cons_option o (filter_map (λ y. g (f y)) xs)
    by o e = ap (cons_option o) e

first-append : {A : Type 0} (xs ys : List A) → first_of (xs ++ ys) ≡ option_or (first_of xs) (first_of ys)
first-append [] ys = refl
first-append (x ∷ xs) ys = refl

cause-behind : (path : List Step) (s : Step) (keys : List Key) → cause_of (path ++ s ∷ []) keys ≡ cause_at s.kind s.name keys
unfolding cause_of
cause-behind path s keys = rw (reverse-append path (s ∷ [])) refl

-- the fault of what was found below the element of a path
below_path : List Written → Found → DimFault
below_path path found = fault_of (path ++ reverse found.inner) found.cause

option_map-or : {A B : Type 0} (f : A → B) (o p : Option A) → option_map f (option_or o p) ≡ option_or (option_map f o) (option_map f p)
option_map-or f None p = refl
option_map-or f (Some x) p = refl

-- an element at fault, or what is below it
step-found : (path : List Step) (s : Step) (o : Option Cause) (below : Option Found) → option_or (option_map (fault_of (map told (path ++ s ∷ []))) o) (option_map (below_path (map told (path ++ s ∷ []))) below) ≡ option_map (below_path (map told path)) (named s.name (found_here o below))
unfolding below_path
step-found path s (Some cause) below = ap (λ p. Some (fault_of p cause)) (map-append told path (s ∷ []))
step-found path s None None = refl
step-found path s None (Some found) =
    ap (λ p. Some (fault_of p found.cause))
    (ap (λ p. p ++ reverse found.inner) (map-append told path (s ∷ []))
    ∙ append_assoc (map told path) (told s ∷ []) (reverse found.inner)
    ∙ sym (ap (λ r. map told path ++ r) (reverse-append found.inner (told s ∷ []))))

option_or-assoc : {A : Type 0} (a b c : Option A) → option_or (option_or a b) c ≡ option_or a (option_or b c)
option_or-assoc None b c = refl
option_or-assoc (Some x) b c = refl

cons-first : {A : Type 0} (o : Option A) (xs : List A) → first_of (cons_option o xs) ≡ option_or o (first_of xs)
cons-first None xs = refl
cons-first (Some x) xs = refl

walked : (path : List Step) (down : List (List Key)) (f : Forest Step Key) → first_of (filter_map of_visit (visits path down f)) ≡ option_map (below_path (map told path)) (first_in f)
unfolding visits first_in of_visit
walked path down leaf = refl
walked path down (node s ks c n) =
    cons-first (of_visit (visit_below path down s ks c)) (filter_map of_visit (visits (path ++ s ∷ []) (down ++ ks ∷ []) c ++ visits path down n))
    ∙ ap₂ option_or
    (ap (option_map (fault_of (map told (path ++ s ∷ [])))) (ap (cause_of (path ++ s ∷ [])) (keys_of-rows (record { keys = ks; below = c })) ∙ cause-behind path s ks))
    (ap first_of (filter_map-append of_visit (visits (path ++ s ∷ []) (down ++ ks ∷ []) c) (visits path down n))
    ∙ first-append (filter_map of_visit (visits (path ++ s ∷ []) (down ++ ks ∷ []) c)) (filter_map of_visit (visits path down n))
    ∙ ap₂ option_or (walked (path ++ s ∷ []) (down ++ ks ∷ []) c) (walked path down n))
    ∙ sym (option_or-assoc (option_map (fault_of (map told (path ++ s ∷ []))) (cause_at s.kind s.name ks)) (option_map (below_path (map told (path ++ s ∷ []))) (first_in c)) (option_map (below_path (map told path)) (first_in n)))
    ∙ ap (λ o. option_or o (option_map (below_path (map told path)) (first_in n))) (step-found path s (cause_at s.kind s.name ks) (first_in c))
    ∙ sym (option_map-or (below_path (map told path)) (named s.name (found_here (cause_at s.kind s.name ks) (first_in c))) (first_in n))

-- the first element at fault
pub first-dimension : (tree : Tree Step Key) → IsDistinct same_step tree.below → first_of (dimension_faults (rows tree)) ≡ option_map told_found (first_in tree.below)
unfolding dimension_faults visits_of of_visit cause_of below_path
first-dimension tree distinct =
    ap first_of
    (sym (filter_map-map of_visit (visit_at (rows tree)) (paths_of (rows tree)))
    ∙ ap (filter_map of_visit) (walk-rows tree distinct))
    ∙ walked [] (tree.keys ∷ []) tree.below

-- the first fault of all, where the counts are those of the unfolded rows if no element is at fault
pub first-of-all : (tree : Tree Step Key) → IsDistinct same_step tree.below → (first_in tree.below ≡ None → (counted : Counted) → amount_of counted (unfolded_rows (rows tree)) ≡ weighed counted tree.below) → fault_in tree.below ≡ first_fault (rows tree)
unfolding first_fault
first-of-all tree distinct amounts =
    by (first_in tree.below) refl
    ∙ sym (ap (λ o. option_or o (first_past (λ counted. amount_of counted (unfolded_rows (rows tree))))) (first-dimension tree distinct))
  where
    by : (o : Option Found) → first_in tree.below ≡ o → fault_in tree.below ≡ option_or (option_map told_found (first_in tree.below)) (first_past (λ counted. amount_of counted (unfolded_rows (rows tree))))
    by (Some found) is =
        ap (λ o. option_or (option_map told_found o) (first_past (λ counted. weighed counted tree.below))) is
        ∙ sym (ap (λ o. option_or (option_map told_found o) (first_past (λ counted. amount_of counted (unfolded_rows (rows tree))))) is)
    by None is =
        λ i. option_or (option_map told_found (first_in tree.below)) (first_past (λ counted. sym (amounts is counted) i))

-- the first fault is told
pub is-first : (all : List (Row Step Key)) (fault : DimFault) → Some fault ≡ first_fault all → IsFirst all fault
is-first all (DimZero path) e = sym e
is-first all (DimTooLong path dim) e = sym e
is-first all (DimNoMark path) e = sym e
is-first all (DimIndexCount path dim given) e = sym e
is-first all (TooMany kind count) e = sym e
is-first all Memory e = tt
