-- The keys and the children that the rows of an element tell, where those of its children are whole.
use Rattle.std.proofs.Common.{◌≡◌, Bool, true, false, ◌&&◌, List, [], ◌∷◌, ◌++◌, map, filter, filter_map, Option, refl, sym, ap, ap₂, ◌∙◌, map-id, append-nil}
use Rattle.std.specs.List.{flat_map, AllByRecursion, IsDistinct}
use Rattle.std.proofs.lemmas.Bool.{true≢false}
use Rattle.std.proofs.lemmas.List.{map-append}
use Rattle.std.proofs.lemmas.List.Elements.{filter-append, filter_map-append}
use Rattle.derived_rows.specs.Deriving.{Part, element_rows, parts_of}
use Rattle.svd_model.specs.Keys.{Key}
use Rattle.svd_model.specs.Steps.{Step, same_step}
use Rattle.svd_model.proofs.Steps.{same_step-tells}
use Rattle.svd_rows.specs.Forest.{leaf, steps}
use Rattle.svd_rows.specs.LookUps.{inside, seen_below, top_key, child_step, keys_of, children_of}
use Rattle.svd_rows.specs.Paths.{begins, is_within}
use Rattle.svd_rows.specs.Rows.{Row, states, own, under, rows, forest_rows}
use Rattle.svd_rows.proofs.Lists.{filter-map, map-map, map_agree, filter_all, filter_none}
use Rattle.svd_rows.proofs.LookUps.{keys_of-rows, children_of-rows}

abbrev pub Rows : Type 0
Rows = List (Row Step Key)

abbrev pub tell : Row Step Key → Option Step
tell row = child_step row.path row.said

abbrev tell_key : Row Step Key → Option Key
tell_key row = top_key row.path row.said

-- the rows of children, each under its step
abbrev pub parts_rows : List Part → Rows
parts_rows parts = flat_map (λ (child : Part). map (under child.0) child.1) parts

-- rows that begin with those of an element itself
pub record IsWhole (all : Rows) : Type 0 where
  pub keys : List Key
  pub parts : List Part
  pub is : all ≡ element_rows keys parts

-- ---- keys

no_key : (s : Step) (all : Rows) → filter_map tell_key (map (under s) all) ≡ []
unfolding under top_key
no_key s [] = refl
no_key s (row ∷ all) = no_key s all

no_keys : (parts : List Part) → filter_map tell_key (parts_rows parts) ≡ []
no_keys [] = refl
no_keys (part ∷ parts) =
    filter_map-append tell_key (map (under part.0) part.1) (parts_rows parts)
    ∙ ap₂ (λ a b. a ++ b) (no_key part.0 part.1) (no_keys parts)

own-keys : (keys : List Key) → filter_map tell_key (own keys) ≡ keys
unfolding keys_of rows forest_rows
own-keys keys = sym (ap (filter_map tell_key) (append-nil (own keys))) ∙ keys_of-rows (record { keys = keys; below = leaf })

pub keys_of-element : (keys : List Key) (parts : List Part) → keys_of (element_rows keys parts) ≡ keys
unfolding keys_of element_rows
keys_of-element keys parts =
    filter_map-append tell_key (own keys) (parts_rows parts)
    ∙ ap₂ (λ a b. a ++ b) (own-keys keys) (no_keys parts)
    ∙ append-nil keys

-- ---- children

deep : (s t : Step) (all : Rows) → filter_map tell (map (under s) (map (under t) all)) ≡ []
unfolding under child_step
deep s t [] = refl
deep s t (row ∷ all) = deep s t all

parts-deep : (s : Step) (parts : List Part) → filter_map tell (map (under s) (parts_rows parts)) ≡ []
parts-deep s [] = refl
parts-deep s (part ∷ parts) =
    ap (filter_map tell) (map-append (under s) (map (under part.0) part.1) (parts_rows parts))
    ∙ filter_map-append tell (map (under s) (map (under part.0) part.1)) (map (under s) (parts_rows parts))
    ∙ ap₂ (λ a b. a ++ b) (deep s part.0 part.1) (parts-deep s parts)

own-steps : (keys : List Key) → filter_map tell (own keys) ≡ []
unfolding children_of rows forest_rows steps
own-steps keys = sym (ap (filter_map tell) (append-nil (own keys))) ∙ children_of-rows (record { keys = keys; below = leaf })

stated-steps : (s : Step) (keys : List Key) → filter_map tell (map (under s) (map (λ (key : Key). record { path = []; said = states key }) keys)) ≡ []
unfolding under child_step
stated-steps s [] = refl
stated-steps s (key ∷ keys) = stated-steps s keys

under-steps : (s : Step) (keys : List Key) → filter_map tell (map (under s) (own keys)) ≡ s ∷ []
unfolding own under child_step
under-steps s keys = ap (λ r. s ∷ r) (stated-steps s keys)

-- the rows of a whole child tell its step
pub whole-step : (s : Step) (all : Rows) → IsWhole all → filter_map tell (map (under s) all) ≡ s ∷ []
unfolding element_rows
whole-step s all whole =
    ap (λ (r : Rows). filter_map tell (map (under s) r)) whole.is
    ∙ ap (filter_map tell) (map-append (under s) (own whole.keys) (parts_rows whole.parts))
    ∙ filter_map-append tell (map (under s) (own whole.keys)) (map (under s) (parts_rows whole.parts))
    ∙ ap₂ (λ a b. a ++ b) (under-steps s whole.keys) (parts-deep s whole.parts)

parts-steps : (parts : List Part) → AllByRecursion (λ (part : Part). IsWhole part.1) parts → filter_map tell (parts_rows parts) ≡ map (λ part. part.0) parts
parts-steps [] h = refl
parts-steps (part ∷ parts) h =
    filter_map-append tell (map (under part.0) part.1) (parts_rows parts)
    ∙ ap₂ (λ a b. a ++ b) (whole-step part.0 part.1 h.0) (parts-steps parts h.1)

pub children_of-element : (keys : List Key) (parts : List Part) → AllByRecursion (λ (part : Part). IsWhole part.1) parts → children_of (element_rows keys parts) ≡ map (λ part. part.0) parts
unfolding children_of element_rows
children_of-element keys parts h =
    filter_map-append tell (own keys) (parts_rows parts)
    ∙ ap₂ (λ a b. a ++ b) (own-steps keys) (parts-steps parts h)

-- ---- what stands inside a child

other_way : (s t : Step) → same_step s t ≡ false → same_step t s ≡ false
other_way s t e = by (same_step t s) refl
  where
    by : (b : Bool) → same_step t s ≡ b → same_step t s ≡ false
    by false p = p
    by true p = absurd (true≢false (sym (same_step-tells.itself s) ∙ ap (same_step s) (sym (same_step-tells.alone t s p)) ∙ e))

-- rows under another step aren't within this one
filter-other : (s t : Step) → same_step s t ≡ false → (all : Rows) → filter (is_within (same_step s ∷ [])) (map (under t) all) ≡ []
unfolding begins under
filter-other s t e all = filter-map (is_within (same_step s ∷ [])) (under t) all ∙ ap (map (under t)) (filter_none (λ row. same_step s t && true) (λ row. ap (λ b. b && true) e) all)

filter-own : (s : Step) (all : Rows) → map (seen_below (s ∷ [])) (filter (is_within (same_step s ∷ [])) (map (under s) all)) ≡ all
unfolding begins under
filter-own s all =
    ap (map (seen_below (s ∷ []))) (filter-map (is_within (same_step s ∷ [])) (under s) all ∙ ap (map (under s)) (filter_all (λ row. same_step s s && true) (λ row. ap (λ b. b && true) (same_step-tells.itself s)) all))
    ∙ map-map (seen_below (s ∷ [])) (under s) all
    ∙ map-id all

filter-none_of : (s : Step) (parts : List Part) → AllByRecursion (λ y. same_step s y ≡ false) (map (λ part. part.0) parts) → filter (is_within (same_step s ∷ [])) (parts_rows parts) ≡ []
filter-none_of s [] h = refl
filter-none_of s (part ∷ parts) h =
    filter-append (is_within (same_step s ∷ [])) (map (under part.0) part.1) (parts_rows parts)
    ∙ ap₂ (λ a b. a ++ b) (filter-other s part.0 h.0 part.1) (filter-none_of s parts h.1)

abbrev within_rows : Rows → Step → Rows
within_rows all s = map (seen_below (s ∷ [])) (filter (is_within (same_step s ∷ [])) all)

agree_on : {X Y : Type 0} (f g : X → Y) (xs : List X) → AllByRecursion (λ x. f x ≡ g x) xs → map f xs ≡ map g xs
agree_on f g [] h = refl
agree_on f g (x ∷ xs) h = ap₂ (λ a b. a ∷ b) h.0 (agree_on f g xs h.1)

pub each : {X : Type 0} {P Q : X → Type 0} → ((x : X) → P x → Q x) → (xs : List X) → AllByRecursion P xs → AllByRecursion Q xs
each f [] h = tt
each f (x ∷ xs) h = (f x h.0, each f xs h.1)

parts-apart : (parts : List Part) → IsDistinct same_step (map (λ part. part.0) parts) → map (λ s. (s, within_rows (parts_rows parts) s)) (map (λ part. part.0) parts) ≡ parts
unfolding IsDistinct
parts-apart [] h = refl
parts-apart (part ∷ parts) h =
    ap₂ (λ (a : Rows) (b : List Part). (part.0, a) ∷ b) first
    (agree_on (λ s. (s, within_rows (map (under part.0) part.1 ++ parts_rows parts) s)) (λ s. (s, within_rows (parts_rows parts) s)) (map (λ y. y.0) parts)
    (each (λ s e. ap (λ (r : Rows). (s, r)) (later s (other_way part.0 s e))) (map (λ y. y.0) parts) h.0)
    ∙ parts-apart parts h.1)
  where
    first : within_rows (map (under part.0) part.1 ++ parts_rows parts) part.0 ≡ part.1
    first =
        ap (map (seen_below (part.0 ∷ []))) (filter-append (is_within (same_step part.0 ∷ [])) (map (under part.0) part.1) (parts_rows parts) ∙ ap (λ r. filter (is_within (same_step part.0 ∷ [])) (map (under part.0) part.1) ++ r) (filter-none_of part.0 parts h.0) ∙ append-nil (filter (is_within (same_step part.0 ∷ [])) (map (under part.0) part.1)))
        ∙ filter-own part.0 part.1

    later : (s : Step) → same_step s part.0 ≡ false → within_rows (map (under part.0) part.1 ++ parts_rows parts) s ≡ within_rows (parts_rows parts) s
    later s e =
        ap (map (seen_below (s ∷ []))) (filter-append (is_within (same_step s ∷ [])) (map (under part.0) part.1) (parts_rows parts) ∙ ap (λ r. r ++ filter (is_within (same_step s ∷ [])) (parts_rows parts)) (filter-other s part.0 e part.1))

own-none : (s : Step) (keys : List Key) → filter (is_within (same_step s ∷ [])) (own keys) ≡ []
unfolding own begins
own-none s keys = keys_none keys
  where
    keys_none : (keys : List Key) → filter (is_within (same_step s ∷ [])) (map (λ key. record { path = []; said = states key }) keys) ≡ []
    keys_none [] = refl
    keys_none (key ∷ keys) = keys_none keys

inside-element : (s : Step) (keys : List Key) (parts : List Part) → inside same_step (s ∷ []) (element_rows keys parts) ≡ within_rows (parts_rows parts) s
unfolding inside element_rows
inside-element s keys parts =
    ap (map (seen_below (s ∷ [])))
    (filter-append (is_within (same_step s ∷ [])) (own keys) (parts_rows parts)
    ∙ ap (λ a. a ++ filter (is_within (same_step s ∷ [])) (parts_rows parts)) (own-none s keys))

-- the children that the rows of an element tell, with what stands inside them
pub parts_of-element : (keys : List Key) (parts : List Part) → AllByRecursion (λ (part : Part). IsWhole part.1) parts → IsDistinct same_step (map (λ part. part.0) parts) → parts_of (element_rows keys parts) ≡ parts
parts_of-element keys parts whole apart =
    ap (map (λ s. (s, inside same_step (s ∷ []) (element_rows keys parts)))) (children_of-element keys parts whole)
    ∙ map_agree (λ s. (s, inside same_step (s ∷ []) (element_rows keys parts))) (λ s. (s, within_rows (parts_rows parts) s)) (λ s. ap (λ (r : Rows). (s, r)) (inside-element s keys parts)) (map (λ part. part.0) parts)
    ∙ parts-apart parts apart
