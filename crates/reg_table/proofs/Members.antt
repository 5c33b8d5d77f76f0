-- The members of all elements by a walk of the tree are those that the flat rows tell.
use Rattle.std.proofs.Common.{◌≡◌, ℕ, cond, List, [], ◌∷◌, ◌++◌, map, filter, reverse, Option, Some, None, is_some, unwrap_or, refl, sym, ap, ap₂, ◌∙◌, subst, append_assoc}
use Rattle.std.specs.Prelude.{fold}
use Rattle.std.specs.List.{AllByRecursion}
use Rattle.std.proofs.lemmas.List.{map-append}
use Rattle.std.proofs.lemmas.List.Elements.{filter-append}
use Rattle.std.proofs.lemmas.List.Folds.{fold-map}
use Rattle.reg_table.specs.Registers.{Member, no_indexes, array_paths, unrolled, members_in_order}
use Rattle.reg_table.proofs.Exchanges.{every-left, every-right, every-reverse, every-map, every-weaker, map-reverse}
use Rattle.reg_table.proofs.Unrolling.{Array, unroll, longer, members_at, below, spread, plain, arrays, arrays_at, arrays-below, lifted, fold-behind, all-unrolled}
use Rattle.svd_model.specs.Keys.{Key}
use Rattle.svd_model.specs.Stating.{value_of, stated_dim, keys_at, paths_of}
use Rattle.svd_model.specs.Steps.{Step, same_step}
use Rattle.svd_model.specs.Visits.{Visit, visit_at, visits_of, visits}
use Rattle.svd_model.proofs.Walking.{walk-rows, paths-append, paths-own, paths-node, no_paths}
use Rattle.svd_rows.specs.Elements.{IsDistinct}
use Rattle.svd_rows.specs.Forest.{Forest, Tree, leaf, node}
use Rattle.svd_rows.specs.LookUps.{keys_of}
use Rattle.svd_rows.specs.Rows.{Row, own, forest_rows, rows}
use Rattle.svd_rows.proofs.Lists.{filter-map, map-map}
use Rattle.svd_rows.proofs.LookUps.{keys_of-rows}

-- ---- what the flat rows tell

-- the flat rows tell of the element what the walk meets
unfoldable pub Known : List (Row Step Key) → Visit → Type 0
Known all visit = visit_at all visit.path ≡ visit

all-known : (tree : Tree Step Key) → IsDistinct same_step tree.below → AllByRecursion (Known (rows tree)) (record { path = []; down = tree.keys ∷ []; own = rows tree } ∷ visits [] (tree.keys ∷ []) tree.below)
unfolding visits_of Known
all-known tree distinct =
    subst (AllByRecursion (Known (rows tree))) (walk-rows tree distinct) (every-map (Known (rows tree)) (visit_at (rows tree)) (λ path. refl) (paths_of (rows tree)))

pub below-known : (tree : Tree Step Key) → IsDistinct same_step tree.below → AllByRecursion (Known (rows tree)) (visits [] (tree.keys ∷ []) tree.below)
below-known tree distinct = (all-known tree distinct).1

-- the arrays of these paths, where this says how many members each has
arrays_of : (List Step → Option ℕ) → List (List Step) → List Array
arrays_of dim paths = map (λ path. (path, unwrap_or (dim path) 0)) (filter (λ path. is_some (dim path)) paths)

-- it says so of the siblings and all below them
unfoldable Tells : (List Step → Option ℕ) → Forest Step Key → Type 0
Tells dim leaf = Unit {0}
Tells dim (node s ks c n) = (dim (s ∷ []) ≡ value_of stated_dim ks) × Tells (λ path. dim (s ∷ path)) c × Tells dim n

rows-tell : (all : List (Row Step Key)) (path : List Step) (down : List (List Key)) (f : Forest Step Key) → AllByRecursion (Known all) (visits path down f) → Tells (λ below. value_of stated_dim (keys_at all (path ++ below))) f
unfolding Tells visits Known
rows-tell all path down leaf known = tt
rows-tell all path down (node s ks c n) known = (
  ap (λ (visit : Visit). value_of stated_dim (keys_of visit.own)) known.0 ∙ ap (value_of stated_dim) (keys_of-rows (record { keys = ks; below = c })),
  subst (λ dim. Tells dim c) (λ i below. value_of stated_dim (keys_at all (append_assoc path (s ∷ []) below i))) (rows-tell all (path ++ s ∷ []) (down ++ ks ∷ []) c (every-left (Known all) (visits (path ++ s ∷ []) (down ++ ks ∷ []) c) (visits path down n) known.1)),
  rows-tell all path down n (every-right (Known all) (visits (path ++ s ∷ []) (down ++ ks ∷ []) c) (visits path down n) known.1),
)

arrays_of-append : (dim : List Step → Option ℕ) (xs ys : List (List Step)) → arrays_of dim (xs ++ ys) ≡ arrays_of dim xs ++ arrays_of dim ys
unfolding arrays_of
arrays_of-append dim xs ys =
    ap (map (λ path. (path, unwrap_or (dim path) 0))) (filter-append (λ path. is_some (dim path)) xs ys) ∙ map-append (λ path. (path, unwrap_or (dim path) 0)) _ _

arrays_of-under : (dim : List Step → Option ℕ) (s : Step) (paths : List (List Step)) → arrays_of dim (map (λ path. s ∷ path) paths) ≡ map (longer s) (arrays_of (λ path. dim (s ∷ path)) paths)
unfolding arrays_of longer
arrays_of-under dim s paths =
    ap (map (λ path. (path, unwrap_or (dim path) 0))) (filter-map (λ path. is_some (dim path)) (λ path. s ∷ path) paths)
    ∙ map-map (λ path. (path, unwrap_or (dim path) 0)) (λ path. s ∷ path) (filter (λ path. is_some (dim (s ∷ path))) paths)
    ∙ sym (map-map (longer s) (λ path. (path, unwrap_or (dim (s ∷ path)) 0)) (filter (λ path. is_some (dim (s ∷ path))) paths))

arrays_of-none : (dim : List Step → Option ℕ) → arrays_of dim [] ≡ []
unfolding arrays_of
arrays_of-none dim = refl

arrays_of-first : (dim : List Step → Option ℕ) (path : List Step) (here : Option ℕ) → dim path ≡ here → (paths : List (List Step)) → arrays_of dim (path ∷ paths) ≡ arrays_at path here ++ arrays_of dim paths
unfolding arrays_of
arrays_of-first dim path None is paths = ap (λ o. map (λ path. (path, unwrap_or (dim path) 0)) (cond (is_some o) (path ∷ filter (λ path. is_some (dim path)) paths) (filter (λ path. is_some (dim path)) paths))) is
arrays_of-first dim path (Some n) is paths =
    ap (λ o. map (λ path. (path, unwrap_or (dim path) 0)) (cond (is_some o) (path ∷ filter (λ path. is_some (dim path)) paths) (filter (λ path. is_some (dim path)) paths))) is
    ∙ ap (λ o. (path, unwrap_or o 0) ∷ arrays_of dim paths) is

own-longer : (s : Step) (dim : Option ℕ) → arrays_at (s ∷ []) dim ≡ map (longer s) (arrays_at [] dim)
unfolding longer
own-longer s None = refl
own-longer s (Some n) = refl

arrays-told : (dim : List Step → Option ℕ) (f : Forest Step Key) → Tells dim f → arrays_of dim (paths_of (forest_rows f)) ≡ arrays f
unfolding Tells arrays
arrays-told dim leaf tells = ap (arrays_of dim) no_paths ∙ arrays_of-none dim
arrays-told dim (node s ks c n) tells =
    ap (arrays_of dim) (paths-node s ks c n)
    ∙ arrays_of-first dim (s ∷ []) (value_of stated_dim ks) tells.0 (map (λ path. s ∷ path) (paths_of (forest_rows c)) ++ paths_of (forest_rows n))
    ∙ ap₂ (λ first others. first ++ others) (own-longer s (value_of stated_dim ks))
    (arrays_of-append dim (map (λ path. s ∷ path) (paths_of (forest_rows c))) (paths_of (forest_rows n))
    ∙ ap₂ (λ inner others. inner ++ others) (arrays_of-under dim s (paths_of (forest_rows c)) ∙ ap (map (longer s)) (arrays-told (λ path. dim (s ∷ path)) c tells.1)) (arrays-told dim n tells.2))
    ∙ sym (append_assoc (map (longer s) (arrays_at [] (value_of stated_dim ks))) (map (longer s) (arrays c)) (arrays n))
    ∙ ap (λ r. r ++ arrays n) (sym (map-append (longer s) (arrays_at [] (value_of stated_dim ks)) (arrays c)))

plain-paths : (f : Forest Step Key) → map (λ path. (path, map (λ step. None) path)) (paths_of (forest_rows f)) ≡ plain f
unfolding plain members_at below
plain-paths leaf = ap (map (λ path. (path, map (λ step. None) path))) no_paths
plain-paths (node s ks c n) =
    ap (map seen) (paths-node s ks c n)
    ∙ ap (λ r. (s ∷ [], None ∷ []) ∷ r)
    (map-append seen (map (λ path. s ∷ path) (paths_of (forest_rows c))) (paths_of (forest_rows n))
    ∙ ap₂ (λ inner others. inner ++ others)
    (map-map seen (λ path. s ∷ path) (paths_of (forest_rows c))
    ∙ sym (map-map (λ member. (s ∷ member.0, None ∷ member.1)) seen (paths_of (forest_rows c)))
    ∙ ap (map (λ member. (s ∷ member.0, None ∷ member.1))) (plain-paths c)
    ∙ sym (map-map (below s) (λ member. (member.0, None ∷ member.1)) (plain c)))
    (plain-paths n))
  where
    seen : List Step → Member
    seen path = (path, map (λ step. None) path)

paths-rows : (tree : Tree Step Key) → paths_of (rows tree) ≡ [] ∷ paths_of (forest_rows tree.below)
unfolding rows
paths-rows tree = paths-append (own tree.keys) (forest_rows tree.below) ∙ ap (λ r. r ++ paths_of (forest_rows tree.below)) (paths-own tree.keys)

-- the members in the order of the definition are those of the walk
module _ (tree : Tree Step Key) (distinct : IsDistinct same_step tree.below) (none : value_of stated_dim tree.keys ≡ None) where
  dim_at : List Step → Option ℕ
  dim_at path = value_of stated_dim (keys_at (rows tree) path)

  dim-top : dim_at [] ≡ None
  unfolding dim_at Known
  dim-top = ap (λ (visit : Visit). value_of stated_dim (keys_of visit.own)) (all-known tree distinct).0 ∙ ap (value_of stated_dim) (keys_of-rows tree) ∙ none

  arrays-tree : map (λ path. (path, unwrap_or (dim_at path) 0)) (array_paths (rows tree)) ≡ arrays tree.below
  unfolding array_paths arrays_of dim_at
  arrays-tree =
      ap (arrays_of dim_at) (paths-rows tree)
      ∙ arrays_of-first dim_at [] None dim-top (paths_of (forest_rows tree.below))
      ∙ arrays-told dim_at tree.below (rows-tell (rows tree) [] (tree.keys ∷ []) tree.below (below-known tree distinct))

  plain-tree : map (λ path. (path, no_indexes path)) (paths_of (rows tree)) ≡ ([], None ∷ []) ∷ lifted (plain tree.below)
  unfolding lifted
  plain-tree =
      ap (map (λ path. (path, no_indexes path))) (paths-rows tree)
      ∙ ap (λ r. ([], None ∷ []) ∷ r)
      (sym (map-map (λ member. (member.0, None ∷ member.1)) (λ path. (path, map (λ step. None) path)) (paths_of (forest_rows tree.below)))
      ∙ ap (map (λ member. (member.0, None ∷ member.1))) (plain-paths tree.below))

  pub members-spread : members_in_order (rows tree) ≡ members_at (spread tree.below) None
  unfolding members_in_order unroll dim_at members_at lifted
  members-spread =
      ap (λ members. fold (unrolled (rows tree)) members (reverse (array_paths (rows tree)))) plain-tree
      ∙ sym (fold-map unroll (λ path. (path, unwrap_or (dim_at path) 0)) (([], None ∷ []) ∷ lifted (plain tree.below)) (reverse (array_paths (rows tree))))
      ∙ ap (fold unroll (([], None ∷ []) ∷ lifted (plain tree.below))) (map-reverse (λ path. (path, unwrap_or (dim_at path) 0)) (array_paths (rows tree)) ∙ ap reverse arrays-tree)
      ∙ fold-behind (reverse (arrays tree.below)) (([], None ∷ []) ∷ []) (lifted (plain tree.below))
      (every-reverse _ (arrays tree.below) (every-weaker _ _ (λ array apart. (apart, tt)) (arrays tree.below) (arrays-below tree.below)))
      ∙ ap (λ r. ([], None ∷ []) ∷ r) (all-unrolled tree.below distinct)
