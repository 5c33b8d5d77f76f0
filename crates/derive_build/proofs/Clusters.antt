-- A cluster that is put together of keys and children.
use Rattle.std.proofs.Common.{◌≡◌, map, ◌∙◌}
use Rattle.svd_model.specs.declared.device.Child.{Child}
use Rattle.svd_model.specs.declared.device.Child.TheOpen.{Cluster-F}
use Rattle.svd_model.specs.declared.device.Cluster.{Cluster, roll-Cluster}
use Rattle.svd_model.specs.declared.device.Item.{Item}
use Rattle.svd_model.specs.Keys.{Key}
use Rattle.svd_model.specs.Steps.{Step}
use Rattle.svd_model.specs.Trees.{cluster_places, cluster_tree, item_under}
use Rattle.svd_model.proofs.Trees.{cluster_tree-roll}
use Rattle.svd_rows.specs.Forest.{Tree, siblings}
use Rattle.svd_rows.specs.Ranks.{stated}

pub cluster-is : (made other : Cluster-F Child Cluster Item) → made.derived ≡ other.derived → made.dim ≡ other.dim → made.offset ≡ other.offset → made.alternate ≡ other.alternate → made.props ≡ other.props
    → ◌≡◌ {A = Tree Step Key} (cluster_tree (roll-Cluster made)) (record { keys = stated (cluster_places other); below = siblings (map item_under made.children.items) })
unfolding cluster_places
cluster-is made other derived dim offset alternate props =
    cluster_tree-roll made
    ∙ (λ i. record { keys = stated (cluster_places {A = Child} {B = Cluster} {C = Item} (record { derived = derived i; dim = dim i; offset = offset i; alternate = alternate i; props = props i; children = made.children })); below = siblings (map item_under made.children.items) })
