-- Children that are compared, kind by kind.
use Rattle.std.proofs.Common.{sym, ap, ap₂, ◌∙◌, eq-eqb, ne_eqb}
use Rattle.std.specs.Cmp.Lexicographic.{pointwise}
use Rattle.patch_arrays.proofs.Same.{and-else, and-second, and-then, and-third, cluster-like, is_not, is_so, item-key, item-same}
use Rattle.patch_arrays.specs.Members.{is_alike}
use Rattle.patch_arrays.specs.Unplaced.{same_item}
use Rattle.svd_model.proofs.Trees.{child_tree-cluster, child_tree-register}
use Rattle.svd_model.specs.Trees.{child_tree}
use Rattle.patch_arrays.proofs.resembling.+likeness.Goals as goal

pub is_like_child-returns-in-Cluster-other : goal.is_like_child-returns-in-Cluster-other
is_like_child-returns-in-Cluster-other t c =
    c.is_like_cluster.ensures
    ∙ sym (ap₂ is_alike (ap child_tree c.in-Cluster.is ∙ child_tree-cluster c.in-Cluster.cluster) (ap child_tree c.in-Cluster-other.is ∙ child_tree-cluster c.in-Cluster-other.twin))

pub is_like_child-returns-in-Register-other : goal.is_like_child-returns-in-Register-other
is_like_child-returns-in-Register-other t c =
    sym (ap₂ is_alike (ap child_tree c.in-Cluster.is ∙ child_tree-cluster c.in-Cluster.cluster) (ap child_tree c.in-Register-other.is ∙ child_tree-register c.in-Register-other.field-0))

pub is_like_child-returns-in-Cluster-other-2 : goal.is_like_child-returns-in-Cluster-other-2
is_like_child-returns-in-Cluster-other-2 t c =
    sym (ap₂ is_alike (ap child_tree c.in-Register.is ∙ child_tree-register c.in-Register.register) (ap child_tree c.in-Cluster-other-2.is ∙ child_tree-cluster c.in-Cluster-other-2.field-0))

pub is_like_child-returns-in-Register-other-2 : goal.is_like_child-returns-in-Register-other-2
is_like_child-returns-in-Register-other-2 t c =
    c.is_like_register.ensures
    ∙ sym (ap₂ is_alike (ap child_tree c.in-Register.is ∙ child_tree-register c.in-Register.register) (ap child_tree c.in-Register-other-2.is ∙ child_tree-register c.in-Register-other-2.twin))

pub is_like_cluster-returns-then-same_cluster_keys : goal.is_like_cluster-returns-then-same_cluster_keys
is_like_cluster-returns-then-same_cluster_keys t c =
    and-then _ _ _ _ (sym c.same_cluster_keys.ensures ∙ c.if-same_cluster_keys.true) (c.same_items.ensures ∙ ap₂ (pointwise same_item) c.as_slice.ensures.value c.as_slice-then-same_cluster_keys.ensures.value) (cluster-like c.args.one.now c.args.other.now)

pub is_like_cluster-returns-else-same_cluster_keys : goal.is_like_cluster-returns-else-same_cluster_keys
is_like_cluster-returns-else-same_cluster_keys t c =
    c.if-same_cluster_keys.false ∙ and-else _ _ _ (sym c.same_cluster_keys.ensures ∙ c.if-same_cluster_keys.false) (cluster-like c.args.one.now c.args.other.now)

pub same_item-returns-then-ne : goal.same_item-returns-then-ne
same_item-returns-then-ne t c = item-key c.args.one.now c.args.other.now (is_not _ (sym c.ne.ensures ∙ c.if-ne.true))

pub same_item-returns-then-offset_of : goal.same_item-returns-then-offset_of
same_item-returns-then-offset_of t c =
    and-second _ _ _ _ (ne_eqb _ _ c.if-offset_of.true) (sym (item-same c.args.one.now c.args.other.now c.offset_of.result c.offset_of-2.result c.offset_of.ensures c.offset_of-2.ensures))

pub same_item-returns : goal.same_item-returns
same_item-returns t c =
    and-third _ _ _ _ _ (is_so _ (sym c.ne.ensures ∙ c.if-ne.false)) (eq-eqb _ _ c.if-offset_of.false) c.is_like_child.ensures (sym (item-same c.args.one.now c.args.other.now c.offset_of.result c.offset_of-2.result c.offset_of.ensures c.offset_of-2.ensures))
