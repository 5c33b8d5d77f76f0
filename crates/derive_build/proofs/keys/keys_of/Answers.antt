use Rattle.std.proofs.Common.{◌∙◌, ap, sym}
use Rattle.svd_model.specs.Keys.{Key}
use Rattle.svd_model.specs.Steps.{Step}
use Rattle.svd_model.proofs.Trees.{cluster_tree-is}
use Rattle.svd_rows.specs.Forest.{Tree}
use Rattle.svd_rows.specs.Ranks.{stated}
use Rattle.derive_build.proofs.keys.keys_of.Goals as goal

pub returns-in-Cluster : goal.returns-in-Cluster
returns-in-Cluster c = rw c.in-Cluster.is (ap stated c.of_cluster.ensures ∙ sym (ap (λ (tree : Tree Step Key). tree.keys) (cluster_tree-is c.in-Cluster.element.now)))
