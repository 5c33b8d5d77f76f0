-- What the look-ups in the rows of a tree give.
use Rattle.std.proofs.Common.{◌≡◌, Bool, List, [], ◌∷◌, ◌++◌, map, filter_map, length, drop, None, refl, ap, ap₂, ◌∙◌, map-id, append-nil}
use Rattle.std.proofs.lemmas.List.{map-append}
use Rattle.std.proofs.lemmas.List.Elements.{filter_map-append}
use Rattle.svd_rows.specs.Elements.{element_at, IsDistinct}
use Rattle.svd_rows.specs.Forest.{Forest, Tree, leaf, node, steps}
use Rattle.svd_rows.specs.LookUps.{seen_below, inside, top_key, child_step, keys_of, children_of}
use Rattle.svd_rows.specs.Paths.{IsSame, exactly}
use Rattle.svd_rows.specs.Rows.{Row, states, forest_rows, rows, own, under, under_path}
use Rattle.svd_rows.specs.Standing.{Stands}
use Rattle.svd_rows.proofs.Adding.{filter-part, filter-none_there}
use Rattle.svd_rows.proofs.Lists.{map-map, map_agree}

drop-length : {S : Type 0} (path below : List S) → drop (length path) (path ++ below) ≡ below
drop-length [] below = refl
drop-length (step ∷ path) below = drop-length path below

own_keys : (S : Type 0) {K : Type 0} (keys : List K) → filter_map (λ (row : Row S K). top_key row.path row.said) (map (λ key. record { path = []; said = states key }) keys) ≡ keys
unfolding top_key
own_keys S [] = refl
own_keys S (key ∷ keys) = ap (λ r. key ∷ r) (own_keys S keys)

no_step : (S : Type 0) {K : Type 0} (keys : List K) → filter_map (λ (row : Row S K). child_step row.path row.said) (map (λ key. record { path = []; said = states key }) keys) ≡ []
unfolding child_step
no_step S [] = refl
no_step S (key ∷ keys) = no_step S keys

module _ {S K : Type 0} where
  -- what stands at and below the path of an element is the element's rows
  pub inside-rows : (same : S → S → Bool) → IsSame same → (path : List S) (tree part : Tree S K) → Stands same path tree part → inside same path (rows tree) ≡ rows part
  unfolding inside under_path
  inside-rows same law path tree part here =
      ap (map (seen_below path)) (filter-part same law path tree part here)
      ∙ map-map (seen_below path) (under_path path) (rows part)
      ∙ map_agree (λ row. seen_below path (under_path path row)) (λ row. row) (λ row. ap (λ p. record { path = p; said = row.said }) (drop-length path row.path)) (rows part)
      ∙ map-id (rows part)

  -- a path that leads to no element has nothing there
  pub inside-none : (same : S → S → Bool) → IsSame same → (path : List S) (tree : Tree S K) → IsDistinct same tree.below → element_at (exactly same path) tree ≡ None → inside same path (rows tree) ≡ []
  unfolding inside
  inside-none same law path tree distinct e = ap (map (seen_below path)) (filter-none_there same law path tree distinct e)

  no_key : (s : S) (all : List (Row S K)) → filter_map (λ row. top_key row.path row.said) (map (under s) all) ≡ []
  unfolding under top_key
  no_key s [] = refl
  no_key s (row ∷ all) = no_key s all

  no_key-forest : (siblings : Forest S K) → filter_map (λ row. top_key row.path row.said) (forest_rows siblings) ≡ []
  unfolding forest_rows
  no_key-forest leaf = refl
  no_key-forest (node s ks c n) =
      filter_map-append (λ row. top_key row.path row.said) (map (under s) (own ks ++ forest_rows c)) (forest_rows n)
      ∙ ap₂ (λ a b. a ++ b) (no_key s (own ks ++ forest_rows c)) (no_key-forest n)

  -- the keys that stand at the top of the rows of an element are its keys
  pub keys_of-rows : (tree : Tree S K) → keys_of (rows tree) ≡ tree.keys
  unfolding keys_of rows own top_key
  keys_of-rows tree =
      filter_map-append (λ row. top_key row.path row.said) (map (λ key. record { path = []; said = states key }) tree.keys) (forest_rows tree.below)
      ∙ ap₂ (λ a b. a ++ b) (own_keys S tree.keys) (no_key-forest tree.below)
      ∙ append-nil tree.keys

  no_step-keys : (s : S) (keys : List K) → filter_map (λ (row : Row S K). child_step row.path row.said) (map (under s) (map (λ key. record { path = []; said = states key }) keys)) ≡ []
  unfolding child_step under
  no_step-keys s [] = refl
  no_step-keys s (key ∷ keys) = no_step-keys s keys

  no_step-deep : (s t : S) (all : List (Row S K)) → filter_map (λ row. child_step row.path row.said) (map (under s) (map (under t) all)) ≡ []
  unfolding under child_step
  no_step-deep s t [] = refl
  no_step-deep s t (row ∷ all) = no_step-deep s t all

  no_step-below : (s : S) (siblings : Forest S K) → filter_map (λ row. child_step row.path row.said) (map (under s) (forest_rows siblings)) ≡ []
  unfolding forest_rows
  no_step-below s leaf = refl
  no_step-below s (node t ks c n) =
      ap (filter_map (λ row. child_step row.path row.said)) (map-append (under s) (map (under t) (own ks ++ forest_rows c)) (forest_rows n))
      ∙ filter_map-append (λ row. child_step row.path row.said) (map (under s) (map (under t) (own ks ++ forest_rows c))) (map (under s) (forest_rows n))
      ∙ ap₂ (λ a b. a ++ b) (no_step-deep s t (own ks ++ forest_rows c)) (no_step-below s n)

  steps-forest : (siblings : Forest S K) → filter_map (λ row. child_step row.path row.said) (forest_rows siblings) ≡ steps siblings
  unfolding forest_rows steps own under child_step
  steps-forest leaf = refl
  steps-forest (node s ks c n) =
      ap (λ r. s ∷ r)
      (filter_map-append (λ row. child_step row.path row.said) (map (under s) (map (λ key. record { path = []; said = states key }) ks ++ forest_rows c)) (forest_rows n)
      ∙ ap₂ (λ a b. a ++ b)
      (ap (filter_map (λ row. child_step row.path row.said)) (map-append (under s) (map (λ key. record { path = []; said = states key }) ks) (forest_rows c))
      ∙ filter_map-append (λ row. child_step row.path row.said) (map (under s) (map (λ key. record { path = []; said = states key }) ks)) (map (under s) (forest_rows c))
      ∙ ap₂ (λ a b. a ++ b) (no_step-keys s ks) (no_step-below s c))
      (steps-forest n))

  -- the children that the rows of an element tell are its children
  pub children_of-rows : (tree : Tree S K) → children_of (rows tree) ≡ steps tree.below
  unfolding children_of rows own child_step
  children_of-rows tree =
      filter_map-append (λ row. child_step row.path row.said) (map (λ key. record { path = []; said = states key }) tree.keys) (forest_rows tree.below)
      ∙ ap₂ (λ a b. a ++ b) (no_step S tree.keys) (steps-forest tree.below)
