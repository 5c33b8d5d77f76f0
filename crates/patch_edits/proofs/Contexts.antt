-- The rows of one element between those before and those behind it.
use Rattle.std.proofs.Common.{◌≡◌, ◌≤◌, ℕ, suc, ◌+◌, Bool, true, false, not, ◌&&◌, nat_le, cond, List, [], ◌∷◌, ◌++◌, map, filter, length, drop, Ok, refl, sym, ap, ap₂, ◌∙◌, subst, append-nil, append_assoc, arith, map-id, length-append}
use Rattle.std.proofs.lemmas.Bool.Decides.{nat_tests}
use Rattle.std.proofs.lemmas.List.{map-append}
use Rattle.std.proofs.lemmas.List.Elements.{filter-append}
use Rattle.patch_sem.proofs.Commuting.{below}
use Rattle.patch_sem.specs.Patching.{put_inside, within_limit}
use Rattle.patch_sem.specs.Selecting.{Rows}
use Rattle.patch_edits.specs.Visits.{Below}
use Rattle.svd_model.proofs.Steps.{same_step-tells}
use Rattle.svd_model.specs.Counting.{elements_in}
use Rattle.svd_model.specs.Facts.{element_limit, elements_of, is_counted}
use Rattle.svd_model.specs.Keys.{Key}
use Rattle.svd_model.specs.Steps.{Step, same_step}
use Rattle.svd_rows.proofs.Counting.{count-rows}
use Rattle.svd_rows.proofs.Exchanging.{begins-behind, some_pass-agree, some_pass-map}
use Rattle.svd_rows.proofs.Lists.{filter-map, filter_all, filter_none, map-map, map_agree}
use Rattle.svd_rows.proofs.Passing.{exchanged-before, filter-none, filter-not_none}
use Rattle.svd_rows.proofs.Standing.{absent-rows}
use Rattle.svd_rows.specs.Elements.{IsAbsent}
use Rattle.svd_rows.specs.Forest.{Tree, leaf, node}
use Rattle.svd_rows.specs.LookUps.{ends_with, inside, is_element_of, seen_below}
use Rattle.svd_rows.specs.Paths.{begins, exactly, is_within}
use Rattle.svd_rows.specs.RowEdits.{exchanged, some_pass}
use Rattle.svd_rows.specs.Rows.{Row, element, states, forest_rows, is_element, own, rows, under, under_path}

abbrev pub tree_with : List Key → Below → Tree Step Key
tree_with keys below = record { keys = keys; below = below }

-- the rows of an element, seen from the start of its path
abbrev pub at : List Step → List Key → Below → Rows
at path keys f = map (under_path path) (rows (tree_with keys f))

-- and those of siblings in it
abbrev pub inner : List Step → Below → Rows
inner path f = map (under_path path) (forest_rows f)

abbrev pub within_path : List Step → Row Step Key → Bool
within_path path = is_within (exactly same_step path)

-- none of the rows is at or below the path
abbrev pub Clear : List Step → Rows → Type 0
Clear path all = some_pass (within_path path) all ≡ false

drop-front : (path rest : List Step) → drop (length path) (path ++ rest) ≡ rest
drop-front [] rest = refl
drop-front (step ∷ path) rest = drop-front path rest

seen-again : (path : List Step) (all : Rows) → map (seen_below path) (map (under_path path) all) ≡ all
unfolding under_path
seen-again path all =
    map-map (seen_below path) (under_path path) all
    ∙ map_agree (λ row. seen_below path (under_path path row)) (λ row. row) (λ row. ap (λ p. record { path = p; said = row.said }) (drop-front path row.path)) all
    ∙ map-id all

own-within : (path : List Step) (all : Rows) → filter (within_path path) (map (under_path path) all) ≡ map (under_path path) all
unfolding under_path
own-within path all =
    filter-map (within_path path) (under_path path) all
    ∙ ap (map (under_path path)) (filter_all (λ row. within_path path (under_path path row)) (λ row. below path row.path) all)

own-out : (path : List Step) (all : Rows) → filter (λ row. not (within_path path row)) (map (under_path path) all) ≡ []
unfolding under_path
own-out path all =
    filter-map (λ row. not (within_path path row)) (under_path path) all
    ∙ ap (map (under_path path)) (filter_none (λ row. not (within_path path (under_path path row))) (λ row. ap not (below path row.path)) all)

-- what stands at and below the path
pub inside-context : (path : List Step) (part before after : Rows) → Clear path before → Clear path after → inside same_step path (before ++ (map (under_path path) part ++ after)) ≡ part
unfolding inside
inside-context path part before after none none_after =
    ap (map (seen_below path))
    (filter-append (within_path path) before (map (under_path path) part ++ after)
    ∙ ap₂ (λ (a b : Rows). a ++ b) (filter-none (within_path path) before none)
    (filter-append (within_path path) (map (under_path path) part) after
    ∙ ap₂ (λ (a b : Rows). a ++ b) (own-within path part) (filter-none (within_path path) after none_after)
    ∙ append-nil (map (under_path path) part)))
    ∙ seen-again path part

-- other rows in the place of those of the element
pub put-context : (path : List Step) (keys : List Key) (f : Below) (new before after : Rows) → Clear path before → Clear path after → put_inside path new (before ++ (at path keys f ++ after)) ≡ before ++ (map (under_path path) new ++ after)
unfolding put_inside exchanged rows own under_path
put-context path keys f new before after none none_after =
    exchanged-before (within_path path) (map (under_path path) new) before (at path keys f ++ after) none
    ∙ ap (λ (r : Rows). before ++ r)
    (ap (λ (b : Bool). cond b (map (under_path path) new ++ filter (λ row. not (within_path path row)) (others ++ after)) (under_path path first ∷ exchanged (within_path path) (map (under_path path) new) (others ++ after)))
    (ap (begins (exactly same_step path)) (path_of_first path) ∙ below path [])
    ∙ ap (λ (r : Rows). map (under_path path) new ++ r)
    (filter-append (λ row. not (within_path path row)) others after
    ∙ ap₂ (λ (a b : Rows). a ++ b) (own-out path rest) (filter-not_none (within_path path) after none_after)))
  where
    first : Row Step Key
    first = record { path = []; said = element }

    rest : Rows
    rest = map (λ key. record { path = []; said = states key }) keys ++ forest_rows f

    others : Rows
    others = map (under_path path) rest

    path_of_first : (path : List Step) → (under_path path first).path ≡ path ++ []
    path_of_first path = refl

-- ---- counts

pub elements-append : (xs ys : Rows) → elements_of (xs ++ ys) ≡ elements_of xs + elements_of ys
unfolding elements_of
elements-append xs ys = ap length (filter-append (is_element_of is_counted) xs ys) ∙ length-append (filter (is_element_of is_counted) xs) (filter (is_element_of is_counted) ys)

ends-behind : (path : List Step) (step : Step) (rest : List Step) → ends_with is_counted (path ++ (step ∷ rest)) ≡ ends_with is_counted (step ∷ rest)
unfolding ends_with
ends-behind [] step rest = refl
ends-behind (first ∷ []) step rest = refl
ends-behind (first ∷ (next ∷ path)) step rest = ends-behind (next ∷ path) step rest

-- rows that are seen from further up are as many elements
elements-under : (path : List Step) (step : Step) (all : Rows) → elements_of (map (under_path path) (map (under step) all)) ≡ elements_of (map (under step) all)
unfolding elements_of under under_path is_element
elements-under path step [] = refl
elements-under path step (row ∷ all) =
    ap (λ (b : Bool). length (cond (is_element row && b) (under_path path (under step row) ∷ filter (is_element_of is_counted) (map (under_path path) (map (under step) all))) (filter (is_element_of is_counted) (map (under_path path) (map (under step) all))))) (ends-behind path step row.path)
    ∙ one (is_element row && ends_with is_counted (step ∷ row.path)) (elements-under path step all)
  where
    one : (b : Bool) → length (filter (is_element_of is_counted) (map (under_path path) (map (under step) all))) ≡ length (filter (is_element_of is_counted) (map (under step) all))
        → length (cond b (under_path path (under step row) ∷ filter (is_element_of is_counted) (map (under_path path) (map (under step) all))) (filter (is_element_of is_counted) (map (under_path path) (map (under step) all)))) ≡ length (cond b (under step row ∷ filter (is_element_of is_counted) (map (under step) all)) (filter (is_element_of is_counted) (map (under step) all)))
    one true more = ap suc more
    one false more = more

elements-inner : (path : List Step) (f : Below) → elements_of (inner path f) ≡ elements_of (forest_rows f)
unfolding forest_rows
elements-inner path leaf = refl
elements-inner path (node s ks c n) =
    ap elements_of (map-append (under_path path) (map (under s) (own ks ++ forest_rows c)) (forest_rows n))
    ∙ elements-append (map (under_path path) (map (under s) (own ks ++ forest_rows c))) (inner path n)
    ∙ ap₂ (λ (a b : ℕ). a + b) (elements-under path s (own ks ++ forest_rows c)) (elements-inner path n)
    ∙ sym (elements-append (map (under s) (own ks ++ forest_rows c)) (forest_rows n))

elements-forest : (f : Below) → elements_of (forest_rows f) ≡ elements_in f
unfolding elements_of rows own is_element ends_with
elements-forest f = count-rows is_counted (tree_with [] f)

-- the elements of siblings, wherever they are seen from
pub inner-counted : (path : List Step) (f : Below) → elements_of (inner path f) ≡ elements_in f
inner-counted path f = elements-inner path f ∙ elements-forest f

pub at-parts : (path : List Step) (keys : List Key) (f : Below) → at path keys f ≡ map (under_path path) (own keys) ++ inner path f
unfolding rows
at-parts path keys f = map-append (under_path path) (own keys) (forest_rows f)

-- the elements of the rows of one element with those before and behind them
pub context-sum : (path : List Step) (keys : List Key) (f : Below) (before after : Rows) → elements_of (before ++ (at path keys f ++ after)) ≡ elements_of before + ((elements_of (map (under_path path) (own keys)) + elements_in f) + elements_of after)
context-sum path keys f before after =
    elements-append before (at path keys f ++ after)
    ∙ ap (λ (n : ℕ). elements_of before + n)
    (elements-append (at path keys f) after
    ∙ ap (λ (n : ℕ). n + elements_of after) (ap elements_of (at-parts path keys f) ∙ elements-append (map (under_path path) (own keys)) (inner path f) ∙ ap (λ (n : ℕ). elements_of (map (under_path path) (own keys)) + n) (inner-counted path f)))

-- where an element has no more below it than before, there are no more elements in all
pub fewer-in : (path : List Step) (keys : List Key) (f new : Below) (before after : Rows) → elements_in new ≤ elements_in f → elements_of (before ++ (at path keys f ++ after)) ≤ element_limit → elements_of (before ++ (at path keys new ++ after)) ≤ element_limit
fewer-in path keys f new before after less few =
    subst (λ (n : ℕ). n ≤ element_limit) (sym (context-sum path keys new before after))
    (at_most (elements_of before) (elements_of (map (under_path path) (own keys))) (elements_in new) (elements_in f) (elements_of after) less (subst (λ (n : ℕ). n ≤ element_limit) (context-sum path keys f before after) few))
  where
    at_most : (a b c d e : ℕ) → c ≤ d → a + ((b + d) + e) ≤ element_limit → a + ((b + c) + e) ≤ element_limit
    at_most a b c d e less few = omega (arith, less, few)

-- no more elements than there may be are no fault
pub in_limit : (all : Rows) → elements_of all ≤ element_limit → within_limit all ≡ Ok all
unfolding within_limit
in_limit all few = rw (passes (elements_of all) few) refl
  where
    passes : (n : ℕ) → n ≤ element_limit → nat_le n element_limit ≡ true
    passes n less = grind (arith, nat_tests, less)

-- ---- steps further down

pub under-longer : (path : List Step) (step : Step) (all : Rows) → map (under_path path) (map (under step) all) ≡ map (under_path (path ++ step ∷ [])) all
unfolding under under_path
under-longer path step all =
    map-map (under_path path) (under step) all
    ∙ map_agree (λ row. under_path path (under step row)) (under_path (path ++ step ∷ [])) (λ row. ap (λ p. record { path = p; said = row.said }) (sym (append_assoc path (step ∷ []) row.path))) all

-- the first sibling with the others behind it
pub inner-node : (path : List Step) (step : Step) (keys : List Key) (c n : Below) → inner path (node step keys c n) ≡ at (path ++ step ∷ []) keys c ++ inner path n
unfolding forest_rows rows
inner-node path step keys c n =
    map-append (under_path path) (map (under step) (own keys ++ forest_rows c)) (forest_rows n)
    ∙ ap (λ (r : Rows). r ++ inner path n) (under-longer path step (own keys ++ forest_rows c))

exactly-longer : (path : List Step) (step : Step) → exactly same_step (path ++ step ∷ []) ≡ exactly same_step path ++ same_step step ∷ []
exactly-longer path step = map-append same_step path (step ∷ [])

-- no row of siblings is at or below a step that none of them has
pub clear-siblings : (path : List Step) (step : Step) (f : Below) → IsAbsent same_step step f → Clear (path ++ step ∷ []) (inner path f)
unfolding under_path
clear-siblings path step f absent =
    ap (λ (tests : List (Step → Bool)). some_pass (is_within tests) (inner path f)) (exactly-longer path step)
    ∙ some_pass-map (is_within (exactly same_step path ++ same_step step ∷ [])) (under_path path) (forest_rows f)
    ∙ some_pass-agree (λ row. begins (exactly same_step path ++ same_step step ∷ []) (path ++ row.path)) (is_within (same_step step ∷ [])) (λ row. begins-behind same_step same_step-tells path (same_step step ∷ []) row.path) (forest_rows f)
    ∙ absent-rows same_step step [] f absent

none_pass : (all : Rows) → some_pass (λ row. false) all ≡ false
unfolding some_pass
none_pass [] = refl
none_pass (row ∷ all) = none_pass all

-- and none of one sibling is at or below another's step
pub clear-sibling : (path : List Step) (step other : Step) (keys : List Key) (f : Below) → same_step other step ≡ false → Clear (path ++ other ∷ []) (at (path ++ step ∷ []) keys f)
unfolding under_path begins
clear-sibling path step other keys f differ =
    ap (λ (tests : List (Step → Bool)). some_pass (is_within tests) (at (path ++ step ∷ []) keys f)) (exactly-longer path other)
    ∙ some_pass-map (is_within (exactly same_step path ++ same_step other ∷ [])) (under_path (path ++ step ∷ [])) (rows (tree_with keys f))
    ∙ some_pass-agree (λ row. begins (exactly same_step path ++ same_step other ∷ []) ((path ++ step ∷ []) ++ row.path)) (λ row. false)
    (λ row. ap (begins (exactly same_step path ++ same_step other ∷ [])) (append_assoc path (step ∷ []) row.path) ∙ begins-behind same_step same_step-tells path (same_step other ∷ []) (step ∷ row.path) ∙ ap (λ (b : Bool). b && true) differ) (rows (tree_with keys f))
    ∙ none_pass (rows (tree_with keys f))
