-- The rows at and below a path are those of the elements that are found there.
use Rattle.std.proofs.Common.{◌≡◌, Bool, true, false, cond, ◌&&◌, List, [], ◌∷◌, ◌++◌, map, filter, flat_map, refl, sym, ap, ap₂, ◌∙◌, map-id, append-nil}
use Rattle.std.proofs.lemmas.List.{map-append}
use Rattle.std.proofs.lemmas.List.Concat.{flat_map-append}
use Rattle.std.proofs.lemmas.List.Elements.{filter-append}
use Rattle.svd_rows.specs.Elements.{found, found_in, step_down}
use Rattle.svd_rows.specs.Forest.{Forest, Tree, leaf, node}
use Rattle.svd_rows.specs.LookUps.{element_paths}
use Rattle.svd_rows.specs.Paths.{begins, fits, is_within, is_at}
use Rattle.svd_rows.specs.Rows.{Row, states, forest_rows, rows, own, under, under_path, is_element}
use Rattle.svd_rows.proofs.Lists.{filter-map, map-map, filter_all, filter_none}

and_false : (b : Bool) → (b && false) ≡ false
and_false true = refl
and_false false = refl

module _ {S K : Type 0} where
  pub map-under_path : (s : S) (path : List S) (all : List (Row S K)) → map (under s) (map (under_path path) all) ≡ map (under_path (s ∷ path)) all
  unfolding under under_path
  map-under_path s path all = map-map (under s) (under_path path) all

  pub map-under_nothing : (all : List (Row S K)) → map (under_path []) all ≡ all
  unfolding under_path
  map-under_nothing all = map-id all

  -- the rows of an element that was found
  abbrev pub part_rows : (List S × Tree S K) → List (Row S K)
  part_rows part = map (under_path part.0) (rows part.1)

  parts_down : (s : S) (parts : List (List S × Tree S K)) → map (under s) (flat_map part_rows parts) ≡ flat_map part_rows (map (step_down s) parts)
  parts_down s [] = refl
  parts_down s (part ∷ parts) =
      map-append (under s) (part_rows part) (flat_map part_rows parts)
      ∙ ap₂ (λ a b. a ++ b) (map-under_path s part.0 (rows part.1)) (parts_down s parts)

  own-within : (test : S → Bool) (tests : List (S → Bool)) (keys : List K) → filter (is_within {K = K} (test ∷ tests)) (own keys) ≡ []
  unfolding own begins
  own-within test tests keys =
      filter-map (is_within (test ∷ tests)) (λ key. record { path = []; said = states key }) keys
      ∙ ap (map (λ key. record { path = []; said = states key })) (filter_none (λ key. false) (λ key. refl) keys)

  pub filter-under : (test : S → Bool) (tests : List (S → Bool)) (s : S) (all : List (Row S K)) → filter (is_within (test ∷ tests)) (map (under s) all) ≡ map (under s) (cond (test s) (filter (is_within tests) all) [])
  unfolding under begins
  filter-under test tests s all = filter-map (is_within (test ∷ tests)) (under s) all ∙ ap (map (under s)) (cases (test s))
    where
      cases : (b : Bool) → filter (λ (row : Row S K). b && begins tests row.path) all ≡ cond b (filter (is_within tests) all) []
      cases true = refl
      cases false = filter_none (λ row. false) (λ row. refl) all

  found_in-rows : (test : S → Bool) (tests : List (S → Bool)) → ((tree : Tree S K) → filter (is_within tests) (rows tree) ≡ flat_map part_rows (found tests tree)) → (siblings : Forest S K) → filter (is_within (test ∷ tests)) (forest_rows siblings) ≡ flat_map part_rows (found_in test (found tests) siblings)
  unfolding found_in forest_rows rows
  found_in-rows test tests each leaf = refl
  found_in-rows test tests each (node s ks c n) =
      filter-append (is_within (test ∷ tests)) (map (under s) (own ks ++ forest_rows c)) (forest_rows n)
      ∙ ap₂ (λ a b. a ++ b) (filter-under test tests s (own ks ++ forest_rows c) ∙ cases (test s)) (found_in-rows test tests each n)
      ∙ sym (flat_map-append part_rows (cond (test s) (map (step_down s) (found tests (record { keys = ks; below = c }))) []) (found_in test (found tests) n))
    where
      cases : (b : Bool) → map (under s) (cond b (filter (is_within tests) (own ks ++ forest_rows c)) []) ≡ flat_map part_rows (cond b (map (step_down s) (found tests (record { keys = ks; below = c }))) [])
      cases true = ap (map (under s)) (each (record { keys = ks; below = c })) ∙ parts_down s (found tests (record { keys = ks; below = c }))
      cases false = refl

  -- the rows at and below the elements to which the tests lead are the rows of these elements
  pub filter-rows : (tests : List (S → Bool)) (tree : Tree S K) → filter (is_within tests) (rows tree) ≡ flat_map part_rows (found tests tree)
  unfolding rows found begins
  filter-rows [] tree =
      filter_all (λ row. true) (λ row. refl) (rows tree)
      ∙ sym (append-nil (map (under_path []) (rows tree)) ∙ map-under_nothing (rows tree))
  filter-rows (test ∷ tests) tree =
      filter-append (is_within (test ∷ tests)) (own tree.keys) (forest_rows tree.below)
      ∙ ap₂ (λ a b. a ++ b) (own-within test tests tree.keys) (found_in-rows test tests (filter-rows tests) tree.below)

  paths_down : (s : S) (parts : List (List S × Tree S K)) → map (λ path. s ∷ path) (map (λ part. part.0) parts) ≡ map (λ part. part.0) (map (step_down s) parts)
  paths_down s parts = map-map (λ path. s ∷ path) (λ part. part.0) parts ∙ sym (map-map (λ (part : List S × Tree S K). part.0) (step_down s) parts)

  paths-under : (test : S → Bool) (tests : List (S → Bool)) (s : S) (all : List (Row S K)) → element_paths (test ∷ tests) (map (under s) all) ≡ cond (test s) (map (λ path. s ∷ path) (element_paths tests all)) []
  unfolding element_paths under fits is_element
  paths-under test tests s all =
      ap (map (λ row. row.path)) (filter-map (λ row. is_element row && is_at (test ∷ tests) row) (under s) all)
      ∙ cases (test s)
    where
      cases : (b : Bool) → map (λ (row : Row S K). row.path) (map (under s) (filter (λ row. is_element row && (b && fits tests row.path)) all)) ≡ cond b (map (λ path. s ∷ path) (map (λ row. row.path) (filter (λ row. is_element row && is_at tests row) all))) []
      cases true =
          map-map (λ row. row.path) (under s) (filter (λ row. is_element row && is_at tests row) all)
          ∙ sym (map-map (λ path. s ∷ path) (λ (row : Row S K). row.path) (filter (λ row. is_element row && is_at tests row) all))
      cases false = ap (λ r. map (λ (row : Row S K). row.path) (map (under s) r)) (filter_none (λ row. is_element row && false) (λ row. and_false (is_element row)) all)

  paths-append : (tests : List (S → Bool)) (xs ys : List (Row S K)) → element_paths tests (xs ++ ys) ≡ element_paths tests xs ++ element_paths tests ys
  unfolding element_paths
  paths-append tests xs ys =
      ap (map (λ row. row.path)) (filter-append (λ row. is_element row && is_at tests row) xs ys)
      ∙ map-append (λ (row : Row S K). row.path) (filter (λ row. is_element row && is_at tests row) xs) (filter (λ row. is_element row && is_at tests row) ys)

  paths-found_in : (test : S → Bool) (tests : List (S → Bool)) → ((tree : Tree S K) → element_paths tests (rows tree) ≡ map (λ part. part.0) (found tests tree)) → (siblings : Forest S K) → element_paths (test ∷ tests) (forest_rows siblings) ≡ map (λ part. part.0) (found_in test (found tests) siblings)
  unfolding found_in forest_rows rows element_paths
  paths-found_in test tests each leaf = refl
  paths-found_in test tests each (node s ks c n) =
      paths-append (test ∷ tests) (map (under s) (own ks ++ forest_rows c)) (forest_rows n)
      ∙ ap₂ (λ a b. a ++ b) (paths-under test tests s (own ks ++ forest_rows c) ∙ cases (test s)) (paths-found_in test tests each n)
      ∙ sym (map-append (λ (part : List S × Tree S K). part.0) (cond (test s) (map (step_down s) (found tests (record { keys = ks; below = c }))) []) (found_in test (found tests) n))
    where
      cases : (b : Bool) → cond b (map (λ path. s ∷ path) (element_paths tests (own ks ++ forest_rows c))) [] ≡ map (λ (part : List S × Tree S K). part.0) (cond b (map (step_down s) (found tests (record { keys = ks; below = c }))) [])
      cases true = ap (map (λ path. s ∷ path)) (each (record { keys = ks; below = c })) ∙ paths_down s (found tests (record { keys = ks; below = c }))
      cases false = refl

  no_path-keys : (tests : List (S → Bool)) (keys : List K) → element_paths {K = K} tests (map (λ key. record { path = []; said = states key }) keys) ≡ []
  unfolding element_paths is_element
  no_path-keys tests keys =
      ap (map (λ row. row.path))
      (filter-map (λ row. is_element row && is_at tests row) (λ (key : K). record { path = []; said = states key }) keys
      ∙ ap (map (λ key. record { path = []; said = states key })) (filter_none (λ key. false) (λ key. refl) keys))

  no_path-under : (s : S) (all : List (Row S K)) → element_paths [] (map (under s) all) ≡ []
  unfolding element_paths under fits is_element
  no_path-under s all =
      ap (map (λ row. row.path))
      (filter-map (λ row. is_element row && is_at [] row) (under s) all
      ∙ ap (map (under s)) (filter_none (λ row. is_element row && false) (λ row. and_false (is_element row)) all))

  no_path-forest : (siblings : Forest S K) → element_paths [] (forest_rows siblings) ≡ []
  unfolding forest_rows element_paths
  no_path-forest leaf = refl
  no_path-forest (node s ks c n) =
      paths-append [] (map (under s) (own ks ++ forest_rows c)) (forest_rows n)
      ∙ ap₂ (λ a b. a ++ b) (none s (own ks ++ forest_rows c)) (no_path-forest n)
    where
      none : (s : S) (all : List (Row S K)) → element_paths [] (map (under s) all) ≡ []
      none s all = no_path-under s all

  -- the paths of the elements that are found are those that the rows tell, in document order
  pub paths-rows : (tests : List (S → Bool)) (tree : Tree S K) → element_paths tests (rows tree) ≡ map (λ part. part.0) (found tests tree)
  unfolding rows found own element_paths is_element fits
  paths-rows [] tree =
      ap (λ r. [] ∷ r)
      (paths-append [] (map (λ key. record { path = []; said = states key }) tree.keys) (forest_rows tree.below)
      ∙ ap₂ (λ a b. a ++ b) (no_path-keys [] tree.keys) (no_path-forest tree.below))
  paths-rows (test ∷ tests) tree =
      paths-append (test ∷ tests) (map (λ key. record { path = []; said = states key }) tree.keys) (forest_rows tree.below)
      ∙ ap₂ (λ a b. a ++ b) (no_path-keys (test ∷ tests) tree.keys) (paths-found_in test tests (paths-rows tests) tree.below)
