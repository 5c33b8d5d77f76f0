-- The paths that the rows of a tree tell, and the keys at them.
use Rattle.std.proofs.Common.{◌≡◌, Bool, false, cond, List, [], ◌∷◌, ◌++◌, map, filter, Option, None, Some, option_and_then, refl, sym, ap, ◌∙◌}
use Rattle.std.specs.Bool.{⊤}
use Rattle.std.proofs.lemmas.Bool.{true≢false, false_from_ne_true}
use Rattle.std.proofs.lemmas.List.{map-append}
use Rattle.std.proofs.lemmas.List.Elements.{filter-append}
use Rattle.svd_model.specs.Keys.{Key}
use Rattle.svd_model.specs.Stating.{keys_at, paths_of, ways_down, keys_down}
use Rattle.svd_model.specs.Steps.{Step, same_step}
use Rattle.svd_model.proofs.Steps.{same_step-tells}
use Rattle.svd_rows.specs.Elements.{child_at, element_at, IsAbsent, IsDistinct}
use Rattle.svd_rows.specs.Forest.{Forest, Tree, leaf, node, steps}
use Rattle.svd_rows.specs.LookUps.{keys_of, ends_with}
use Rattle.svd_rows.specs.Paths.{exactly}
use Rattle.svd_rows.specs.Rows.{Row, states, forest_rows, rows, own, under, is_element}
use Rattle.svd_rows.proofs.Lists.{filter-map, map-map, filter_none}
use Rattle.svd_rows.proofs.LookUps.{inside-rows, keys_of-rows}
use Rattle.svd_rows.proofs.Standing.{element_at-stands}

-- ---- the paths of a tree's elements

paths-append : (xs ys : List (Row Step Key)) → paths_of (xs ++ ys) ≡ paths_of xs ++ paths_of ys
unfolding paths_of
paths-append xs ys =
    ap (map (λ row. row.path)) (filter-append is_element xs ys) ∙ map-append (λ (row : Row Step Key). row.path) (filter is_element xs) (filter is_element ys)

paths-under : (s : Step) (all : List (Row Step Key)) → paths_of (map (under s) all) ≡ map (λ path. s ∷ path) (paths_of all)
unfolding paths_of under is_element
paths-under s all =
    ap (map (λ row. row.path)) (filter-map is_element (under s) all)
    ∙ map-map (λ (row : Row Step Key). row.path) (under s) (filter is_element all)
    ∙ sym (map-map (λ path. s ∷ path) (λ (row : Row Step Key). row.path) (filter is_element all))

paths-own : (keys : List Key) → paths_of (own keys) ≡ [] ∷ []
unfolding paths_of own is_element
paths-own keys =
    ap (λ r. [] ∷ map (λ (row : Row Step Key). row.path) r)
    (filter-map is_element (λ (key : Key). record { path = []; said = states key }) keys
    ∙ ap (map (λ key. record { path = []; said = states key })) (filter_none (λ key. false) (λ key. refl) keys))

-- an element, those below it, and its later siblings
pub paths-node : (s : Step) (keys : List Key) (c n : Forest Step Key) → paths_of (forest_rows (node s keys c n)) ≡ (s ∷ []) ∷ (map (λ path. s ∷ path) (paths_of (forest_rows c)) ++ paths_of (forest_rows n))
unfolding forest_rows
paths-node s keys c n =
    paths-append (map (under s) (own keys ++ forest_rows c)) (forest_rows n)
    ∙ ap (λ r. r ++ paths_of (forest_rows n))
    (paths-under s (own keys ++ forest_rows c) ∙ ap (map (λ path. s ∷ path)) (paths-append (own keys) (forest_rows c) ∙ ap (λ r. r ++ paths_of (forest_rows c)) (paths-own keys)))

pub paths-tree : (tree : Tree Step Key) → paths_of (rows tree) ≡ [] ∷ paths_of (forest_rows tree.below)
unfolding rows
paths-tree tree = paths-append (own tree.keys) (forest_rows tree.below) ∙ ap (λ r. r ++ paths_of (forest_rows tree.below)) (paths-own tree.keys)

-- ---- each element is found at its path

-- each of the siblings is found under its step among all of them
unfoldable pub AreFound : Forest Step Key → Forest Step Key → Type 0
AreFound all leaf = ⊤
AreFound all (node s ks c n) = (child_at (same_step s) all ≡ Some (record { keys = ks; below = c })) × AreFound all n

skipped : (s : Step) (ks : List Key) (c all f : Forest Step Key) → IsAbsent same_step s f → AreFound all f → AreFound (node s ks c all) f
unfolding AreFound child_at steps
skipped s ks c all leaf absent found = tt
skipped s ks c all (node t kt ct n) absent found = (
  ap (λ b. cond b (Some (record { keys = ks; below = c })) (child_at (same_step t) all)) apart ∙ found.0,
  skipped s ks c all n absent.1 found.1,
)
  where
    apart : same_step t s ≡ false
    apart = false_from_ne_true (same_step t s) (λ e. true≢false (sym (same_step-tells.itself s) ∙ ap (same_step s) (sym (same_step-tells.alone t s e)) ∙ absent.0))

pub are-found : (f : Forest Step Key) → IsDistinct same_step f → AreFound f f
unfolding AreFound child_at IsDistinct
are-found leaf distinct = tt
are-found (node s ks c n) distinct = (
  ap (λ b. cond b (Some (record { keys = ks; below = c })) (child_at (same_step s) n)) (same_step-tells.itself s),
  skipped s ks c n n distinct.0 (are-found n distinct.2),
)

-- one step further down
pub element_at-behind : (path : List Step) (s : Step) (tree part child : Tree Step Key) → element_at (exactly same_step path) tree ≡ Some part → child_at (same_step s) part.below ≡ Some child → element_at (exactly same_step (path ++ s ∷ [])) tree ≡ Some child
unfolding element_at
element_at-behind [] s tree part child here below =
    let is : tree ≡ part = cc in
    ap (option_and_then (element_at [])) (ap (λ (t : Tree Step Key). child_at (same_step s) t.below) is ∙ below)
element_at-behind (step ∷ path) s tree part child here below =
    by (child_at (same_step step) tree.below) here (λ t h. element_at-behind path s t part child h below)
  where
    by : (o : Option (Tree Step Key)) → option_and_then (element_at (exactly same_step path)) o ≡ Some part → ((t : Tree Step Key) → element_at (exactly same_step path) t ≡ Some part → element_at (exactly same_step (path ++ s ∷ [])) t ≡ Some child) → option_and_then (element_at (exactly same_step (path ++ s ∷ []))) o ≡ Some child
    by None h rest = absurd cc
    by (Some t) h rest = rest t h

-- ---- the keys of each element

-- the rows tell the keys of an element
pub keys_at-element : (tree part : Tree Step Key) (path : List Step) → IsDistinct same_step tree.below → element_at (exactly same_step path) tree ≡ Some part → keys_at (rows tree) path ≡ part.keys
keys_at-element tree part path distinct here =
    ap keys_of (inside-rows same_step same_step-tells path tree part (element_at-stands same_step same_step-tells path tree part distinct here)) ∙ keys_of-rows part

ways_down-behind : (path : List Step) (s : Step) → ways_down (path ++ s ∷ []) ≡ ways_down path ++ (path ++ s ∷ []) ∷ []
unfolding ways_down
ways_down-behind [] s = refl
ways_down-behind (step ∷ path) s =
    ap (λ r. [] ∷ map (λ way. step ∷ way) r) (ways_down-behind path s)
    ∙ ap (λ r. [] ∷ r) (map-append (λ way. step ∷ way) (ways_down path) ((path ++ s ∷ []) ∷ []))

-- the keys on the way down to an element are those on the way to its parent, and its own
pub keys_down-behind : (all : List (Row Step Key)) (path : List Step) (s : Step) → keys_down all (path ++ s ∷ []) ≡ keys_down all path ++ keys_at all (path ++ s ∷ []) ∷ []
unfolding keys_down
keys_down-behind all path s =
    ap (map (keys_at all)) (ways_down-behind path s) ∙ map-append (keys_at all) (ways_down path) ((path ++ s ∷ []) ∷ [])

-- ---- the last step of a path

pub ends_with-behind : (test : Step → Bool) (path : List Step) (s : Step) → ends_with test (path ++ s ∷ []) ≡ test s
unfolding ends_with
ends_with-behind test [] s = refl
ends_with-behind test (step ∷ []) s = refl
ends_with-behind test (step ∷ next ∷ path) s = ends_with-behind test (next ∷ path) s
