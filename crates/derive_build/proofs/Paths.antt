-- The elements that are listed are those of the paths of the rows, in their order.
use Rattle.std.proofs.Common.{◌≡◌, ℕ, ◌<◌, not, List, [], ◌∷◌, ◌++◌, map, length, get_or, Some, refl, sym, ap, ap₂, ◌∙◌}
use Rattle.std.specs.List.{list_all}
use Rattle.std.proofs.lemmas.List.{length-map, map-append, get_or-map}
use Rattle.derive_build.specs.declared.own.Own.{Own}
use Rattle.derive_build.specs.Children.{no_node, node_at}
use Rattle.derive_build.specs.Nodes.{Node, node_of, top_node, nodes_in, nodes_of, own_node}
use Rattle.derive_order.specs.Kids.{last_step}
use Rattle.derived_graph.specs.Graphs.{path_at}
use Rattle.derived_rows.specs.Merging.{is_marked_at}
use Rattle.derived_rows.specs.Sources.{kind_at}
use Rattle.pac_base.specs.Names.{is_word_byte}
use Rattle.svd_model.specs.Keys.{Key}
use Rattle.svd_model.specs.Stating.{keys_at, paths_of}
use Rattle.svd_model.specs.Steps.{Step, same_step}
use Rattle.svd_model.specs.Visits.{Visit, visit_at, visits_of, visits}
use Rattle.svd_model.proofs.Walking.{walk-rows}
use Rattle.svd_rows.specs.Elements.{IsDistinct}
use Rattle.svd_rows.specs.Forest.{Forest, Tree, leaf, node}
use Rattle.svd_rows.specs.LookUps.{keys_of}
use Rattle.svd_rows.specs.Rows.{rows}
use Rattle.svd_rows.proofs.Lists.{map-map}
use Rattle.svd_rows.proofs.LookUps.{keys_of-rows}

-- the element of a path
abbrev pub node_by : List Step → List Key → Node
node_by [] keys = top_node keys
node_by (step ∷ path) keys = node_of (last_step (step ∷ path)) keys

last-push : (path : List Step) (step : Step) → last_step (path ++ step ∷ []) ≡ step
unfolding last_step
last-push [] step = refl
last-push (x ∷ []) step = refl
last-push (x ∷ y ∷ path) step = last-push (y ∷ path) step

pub node-push : (path : List Step) (step : Step) (keys : List Key) → node_by (path ++ step ∷ []) keys ≡ node_of step keys
node-push [] step keys = ap (λ s. node_of s keys) (last-push [] step)
node-push (x ∷ path) step keys = ap (λ s. node_of s keys) (last-push (x ∷ path) step)

last-kind : (step : Step) (path : List Step) → Some (last_step (step ∷ path)).kind ≡ kind_at (step ∷ path)
unfolding kind_at last_step
last-kind step [] = refl
last-kind step (next ∷ path) = last-kind next path

last-marked : (step : Step) (path : List Step) → not (list_all is_word_byte (last_step (step ∷ path)).name) ≡ is_marked_at (step ∷ path)
unfolding is_marked_at last_step
last-marked step [] = refl
last-marked step (next ∷ path) = last-marked next path

-- what it has of its path, and of its keys
pub node-kind : (path : List Step) (keys : List Key) → (node_by path keys).kind ≡ kind_at path
unfolding kind_at
node-kind [] keys = refl
node-kind (step ∷ path) keys = last-kind step path

pub node-marked : (path : List Step) (keys : List Key) → not (list_all is_word_byte (node_by path keys).name) ≡ is_marked_at path
unfolding is_marked_at
node-marked [] keys = refl
node-marked (step ∷ path) keys = last-marked step path

pub node-keys : (path : List Step) (keys : List Key) → (node_by path keys).keys ≡ keys
node-keys [] keys = refl
node-keys (step ∷ path) keys = refl

abbrev told_node : Visit → Node
told_node v = node_by v.path (keys_of v.own)

visits-nodes : (path : List Step) (down : List (List Key)) (g : Forest Step Key) → map told_node (visits path down g) ≡ nodes_in g
unfolding visits nodes_in
visits-nodes path down leaf = refl
visits-nodes path down (node s ks c g) =
    ap₂ (λ n others. n ∷ others) (node-push path s (keys_of (rows (record { keys = ks; below = c }))) ∙ ap (node_of s) (keys_of-rows (record { keys = ks; below = c })))
    (map-append told_node (visits (path ++ s ∷ []) (down ++ ks ∷ []) c) (visits path down g)
    ∙ ap₂ (λ a b. a ++ b) (visits-nodes (path ++ s ∷ []) (down ++ ks ∷ []) c) (visits-nodes path down g))

module _ (tree : Tree Step Key) (distinct : IsDistinct same_step tree.below) where
  pub nodes-are : map (λ path. node_by path (keys_at (rows tree) path)) (paths_of (rows tree)) ≡ nodes_of tree
  unfolding visits_of nodes_of
  nodes-are =
      sym (map-map told_node (visit_at (rows tree)) (paths_of (rows tree)))
      ∙ ap (map told_node) (walk-rows tree distinct)
      ∙ ap₂ (λ keys others. top_node keys ∷ others) (keys_of-rows tree) (visits-nodes [] (tree.keys ∷ []) tree.below)

  module _ (owns : List Own) (listed : map own_node owns ≡ nodes_of tree) where
    pub as-many-owns : length owns ≡ length (paths_of (rows tree))
    as-many-owns = sym (length-map owns own_node) ∙ ap (λ (ns : List Node). length ns) (listed ∙ sym nodes-are) ∙ length-map (paths_of (rows tree)) (λ path. node_by path (keys_at (rows tree) path))

    -- the element of a number is that of its path
    pub node-at : (e : ℕ) → e < length (paths_of (rows tree)) → node_at owns e ≡ node_by (path_at (rows tree) e) (keys_at (rows tree) (path_at (rows tree) e))
    node-at e inside =
        ap (λ ns. get_or ns e no_node) (listed ∙ sym nodes-are)
        ∙ get_or-map (λ path. node_by path (keys_at (rows tree) path)) (paths_of (rows tree)) e [] no_node inside
