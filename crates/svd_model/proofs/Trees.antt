-- The equations of the trees of children.
use Rattle.std.proofs.Common.{◌≡◌, map, sym, ap, ap₂, ◌∙◌}
use Rattle.svd_model.specs.declared.device.Child.{Child}
use Rattle.svd_model.specs.declared.device.Child.TheVariants.{Cluster, Register, rolls-Cluster, rolls-Register}
use Rattle.svd_model.specs.declared.device.Child.TheOpen.{Child-F, Cluster-F, Item-F}
use Rattle.svd_model.specs.declared.device.Child.TheOpen as opened
use Rattle.svd_model.specs.declared.device.Child.TheFolds.{fold-Child, fold-roll-Child, fold-roll-Cluster, fold_out-Cluster, fold-roll-Item, fold_out-Item}
use Rattle.svd_model.specs.declared.device.Cluster.{Cluster as ClusterOf, out-Cluster, roll-Cluster}
use Rattle.svd_model.specs.declared.device.Item.{Item, roll-Item}
use Rattle.svd_model.specs.declared.device.Register.{Register as RegisterOf}
use Rattle.svd_model.specs.Keys.{Key}
use Rattle.svd_model.specs.Steps.{Step, Kind, cluster, register}
use Rattle.svd_model.specs.Trees.{child_tree, cluster_tree, item_under, child_layer, cluster_layer, item_layer, register_tree, cluster_places, step_of}
use Rattle.svd_rows.specs.Forest.{Tree, siblings}
use Rattle.svd_rows.specs.Ranks.{stated}

pub child_tree-cluster : (element : ClusterOf) → child_tree (Cluster element) ≡ (cluster, cluster_tree element)
unfolding child_tree cluster_tree
child_tree-cluster element =
    ap child_tree' (sym (rolls-Cluster element))
    ∙ fold-roll-Child (Kind × Tree Step Key) (Tree Step Key) (Step × Tree Step Key) child_layer cluster_layer item_layer (opened.Cluster element)
  where
    child_tree' : Child → (Kind × Tree Step Key)
    child_tree' = fold-Child (Kind × Tree Step Key) (Tree Step Key) (Step × Tree Step Key) child_layer cluster_layer item_layer

pub child_tree-register : (element : RegisterOf) → child_tree (Register element) ≡ (register, register_tree element)
unfolding child_tree
child_tree-register element =
    ap child_tree' (sym (rolls-Register element))
    ∙ fold-roll-Child (Kind × Tree Step Key) (Tree Step Key) (Step × Tree Step Key) child_layer cluster_layer item_layer (opened.Register element)
  where
    child_tree' : Child → (Kind × Tree Step Key)
    child_tree' = fold-Child (Kind × Tree Step Key) (Tree Step Key) (Step × Tree Step Key) child_layer cluster_layer item_layer

pub item_under-is : (item : Item) → item_under item ≡ (step_of (child_tree item.child).0 item.key, (child_tree item.child).1)
unfolding item_under child_tree
item_under-is item = fold_out-Item (Kind × Tree Step Key) (Tree Step Key) (Step × Tree Step Key) child_layer cluster_layer item_layer item

pub cluster_tree-is : (element : ClusterOf) → cluster_tree element ≡ record { keys = stated (cluster_places (out-Cluster element)); below = siblings (map item_under (out-Cluster element).children.items) }
unfolding cluster_tree item_under cluster_places
cluster_tree-is element = fold_out-Cluster (Kind × Tree Step Key) (Tree Step Key) (Step × Tree Step Key) child_layer cluster_layer item_layer element

-- an item that is put together
pub item_under-roll : (item : Item-F Child ClusterOf Item) → item_under (roll-Item item) ≡ (step_of (child_tree item.child).0 item.key, (child_tree item.child).1)
unfolding item_under child_tree
item_under-roll item = fold-roll-Item (Kind × Tree Step Key) (Tree Step Key) (Step × Tree Step Key) child_layer cluster_layer item_layer item

-- a cluster that is put together
pub cluster_tree-roll : (element : Cluster-F Child ClusterOf Item) → cluster_tree (roll-Cluster element) ≡ record { keys = stated (cluster_places element); below = siblings (map item_under element.children.items) }
unfolding cluster_tree item_under cluster_places
cluster_tree-roll element = fold-roll-Cluster (Kind × Tree Step Key) (Tree Step Key) (Step × Tree Step Key) child_layer cluster_layer item_layer element

-- two clusters with equal keys
cluster_places-same : (one other : Cluster-F Child ClusterOf Item) → one.derived ≡ other.derived → one.dim ≡ other.dim → one.offset ≡ other.offset → one.alternate ≡ other.alternate → one.props ≡ other.props → cluster_places one ≡ cluster_places other
unfolding cluster_places
cluster_places-same one other derived dim offset alternate props =
    λ i. cluster_places {A = Child} {B = ClusterOf} {C = Item} (record { derived = derived i; dim = dim i; offset = offset i; alternate = alternate i; props = props i; children = one.children })

-- a cluster that is put together of the keys and children of another has its tree
pub cluster_tree-same : (made : Cluster-F Child ClusterOf Item) (element : ClusterOf) → made.derived ≡ (out-Cluster element).derived → made.dim ≡ (out-Cluster element).dim → made.offset ≡ (out-Cluster element).offset → made.alternate ≡ (out-Cluster element).alternate → made.props ≡ (out-Cluster element).props → map item_under made.children.items ≡ map item_under (out-Cluster element).children.items → cluster_tree (roll-Cluster made) ≡ cluster_tree element
cluster_tree-same made element derived dim offset alternate props children =
    cluster_tree-roll made
    ∙ ap₂ (λ places items. record { keys = stated places; below = siblings items }) (cluster_places-same made (out-Cluster element) derived dim offset alternate props) children
    ∙ sym (cluster_tree-is element)

-- an item that is put together of the key and child of another has its tree
pub item_under-same : (made : Item-F Child ClusterOf Item) (item : Item) → made.key ≡ item.key → child_tree made.child ≡ child_tree item.child → item_under (roll-Item made) ≡ item_under item
item_under-same made item key child =
    item_under-roll made ∙ ap₂ (λ k t. (step_of t.0 k, t.1)) key child ∙ sym (item_under-is item)

-- a cluster with other children has its keys
pub cluster_tree-with_children : (made : Cluster-F Child ClusterOf Item) (element : ClusterOf) → made.derived ≡ (out-Cluster element).derived → made.dim ≡ (out-Cluster element).dim → made.offset ≡ (out-Cluster element).offset → made.alternate ≡ (out-Cluster element).alternate → made.props ≡ (out-Cluster element).props → cluster_tree (roll-Cluster made) ≡ record { keys = (cluster_tree element).keys; below = siblings (map item_under made.children.items) }
cluster_tree-with_children made element derived dim offset alternate props =
    cluster_tree-roll made
    ∙ ap (λ places. record { keys = stated places; below = siblings (map item_under made.children.items) }) (cluster_places-same made (out-Cluster element) derived dim offset alternate props)
    ∙ sym (ap (λ (tree : Tree Step Key). record { keys = tree.keys; below = siblings (map item_under made.children.items) }) (cluster_tree-is element))

-- the children of a cluster
pub cluster_tree-below : (element : ClusterOf) → (cluster_tree element).below ≡ siblings (map item_under (out-Cluster element).children.items)
cluster_tree-below element = ap (λ (tree : Tree Step Key). tree.below) (cluster_tree-is element)

-- the step of a child has the name and the number of its key
pub item_under-name : (item : Item) → (item_under item).0.name ≡ item.key.name
item_under-name item = ap (λ (x : Step × Tree Step Key). x.0.name) (item_under-is item)

pub item_under-number : (item : Item) → (item_under item).0.number ≡ item.key.number
item_under-number item = ap (λ (x : Step × Tree Step Key). x.0.number) (item_under-is item)
