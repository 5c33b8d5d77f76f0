-- The parts of each child are copied, so its tree is.
use Rattle.std.proofs.Common.{map, refl, sym, ap, ◌∙◌}
use Rattle.svd_model.specs.declared.device.Cluster.{out-Cluster}
use Rattle.svd_model.specs.Steps.{cluster, register}
use Rattle.svd_model.specs.Trees.{child_tree, item_under}
use Rattle.svd_model.proofs.Trees.{child_tree-cluster, child_tree-register, cluster_tree-same, item_under-same}
use Rattle.svd_model.proofs.copy.+copy.Goals as goal

pub copied_child-returns-in_ok-copied_cluster-in-Cluster : goal.copied_child-returns-in_ok-copied_cluster-in-Cluster
copied_child-returns-in_ok-copied_cluster-in-Cluster t c =
    let h = c.in_ok-copied_cluster-in-Cluster.ensures in
    child_tree-cluster c.in_ok-copied_cluster-in-Cluster.field-0 ∙ ap (λ tree. (cluster, tree)) h ∙ sym (child_tree-cluster c.in-Cluster.cluster) ∙ ap child_tree (sym c.in-Cluster.is)

pub copied_child-returns-in_ok-copied_register-in-Register : goal.copied_child-returns-in_ok-copied_register-in-Register
copied_child-returns-in_ok-copied_register-in-Register t c =
    let h = c.in_ok-copied_register-in-Register.ensures in
    child_tree-register c.in_ok-copied_register-in-Register.field-0 ∙ ap (λ tree. (register, tree)) h ∙ sym (child_tree-register c.in-Register.register) ∙ ap child_tree (sym c.in-Register.is)

pub copied_cluster-returns : goal.copied_cluster-returns
copied_cluster-returns t c =
    cluster_tree-same (record {
      derived = c.in_ok-copied_path.field-0;
      dim = c.in_ok-copied_dim.field-0;
      offset = (out-Cluster c.args.cluster.now).offset;
      alternate = c.in_ok-copied_name.field-0;
      props = (out-Cluster c.args.cluster.now).props;
      children = c.in_ok-copied_items.field-0;
    }) c.args.cluster.now c.in_ok-copied_path.ensures c.in_ok-copied_dim.ensures refl c.in_ok-copied_name.ensures refl (c.in_ok-copied_items.ensures ∙ ap (map item_under) c.as_slice.ensures.value)

pub copied_item-returns : goal.copied_item-returns
copied_item-returns t c =
    item_under-same (record { key = c.in_ok-copied_key.field-0; child = c.in_ok-copied_child.field-0 }) c.args.item.now c.in_ok-copied_key.ensures c.in_ok-copied_child.ensures
