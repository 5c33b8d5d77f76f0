use Rattle.std.proofs.Common.{ap, ◌∙◌}
use Rattle.svd_model.specs.declared.device.Child.{Child}
use Rattle.svd_model.specs.declared.device.Child.TheOpen.{Cluster-F}
use Rattle.svd_model.specs.declared.device.Cluster.{Cluster, out-Cluster, out-roll-Cluster}
use Rattle.svd_model.specs.declared.device.Item.{Item}
use Rattle.svd_model.specs.Trees.{cluster_places}
use Rattle.patch_settings.proofs.MergedKeys.{cluster-merged}
use Rattle.patch_settings.proofs.merging.in_cluster.Goals as goal

pub returns-clause-keys : goal.returns-clause-keys
returns-clause-keys c =
    let made : Cluster-F Child Cluster Item = record {
      derived = c.put_in_cluster.new.derived;
      dim = c.put_in_cluster.new.dim;
      offset = c.put_in_cluster.new.offset;
      alternate = c.put_in_cluster.new.alternate;
      props = c.put_in_cluster.new.props;
      children = (out-Cluster c.args.cluster.now).children;
    } in
    ap cluster_places (out-roll-Cluster made)
    ∙ cluster-merged c.args.settings (out-Cluster c.args.cluster.now) made c.put_in_cluster.ensures.derived c.put_in_cluster.ensures.dim c.put_in_cluster.ensures.offset c.put_in_cluster.ensures.alternate c.put_in_cluster.ensures.props
