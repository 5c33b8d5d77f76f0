use Rattle.std.proofs.Common.{ap, ◌∙◌}
use Rattle.patch_settings.proofs.ChildKeys.{child-set, if_ok}
use Rattle.svd_model.proofs.Trees.{child_tree-cluster, child_tree-register}
use Rattle.svd_model.specs.Steps.{cluster, register}
use Rattle.svd_model.specs.Trees.{child_tree, cluster_tree, register_tree}
use Rattle.patch_settings.proofs.element.set_child.Goals as goal

pub returns-in-Cluster : goal.returns-in-Cluster
returns-in-Cluster c =
    if_ok c.set_cluster.result
    (child-set c.args.keys.now cluster (child_tree c.args.child.now) _ (cluster_tree c.in-Cluster.cluster) (cluster_tree c.set_cluster.new.cluster) (ap child_tree c.in-Cluster.is ∙ child_tree-cluster c.in-Cluster.cluster) (child_tree-cluster c.set_cluster.new.cluster))
    c.set_cluster.ensures

pub returns-in-Register : goal.returns-in-Register
returns-in-Register c =
    if_ok c.set_register.result
    (child-set c.args.keys.now register (child_tree c.args.child.now) _ (register_tree c.in-Register.register) (register_tree c.set_register.new.register) (ap child_tree c.in-Register.is ∙ child_tree-register c.in-Register.register) (child_tree-register c.set_register.new.register))
    c.set_register.ensures
