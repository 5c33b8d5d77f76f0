use Rattle.std.proofs.Common.{refl, option_map}
use Rattle.derive_build.specs.Taking.{dim_by}
use Rattle.derive_build.proofs.Clusters.{cluster-is}
use Rattle.svd_model.specs.declared.device.Cluster.{out-Cluster}
use Rattle.derive_build.proofs.block.with_children.Goals as goal

pub returns : goal.returns
returns c =
    let element = out-Cluster c.args.element.now in
    cluster-is (record {
      derived = c.in_ok-copied_path.field-0;
      dim = c.in_ok-dim_of.field-0;
      offset = element.offset;
      alternate = c.in_ok-copied_name.field-0;
      props = c.args.keys.now.props;
      children = c.args.children;
    }) (record {
      derived = element.derived;
      dim = dim_by c.args.keys.now;
      offset = element.offset;
      alternate = option_map (λ name. name.now) c.args.keys.now.alternate;
      props = c.args.keys.now.props;
      children = element.children;
    }) c.in_ok-copied_path.ensures c.in_ok-dim_of.ensures refl c.in_ok-copied_name.ensures refl
