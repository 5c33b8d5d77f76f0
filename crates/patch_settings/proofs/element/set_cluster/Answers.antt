use Rattle.patch_settings.proofs.Elements.{cluster-set}
use Rattle.patch_settings.proofs.element.set_cluster.Goals as goal

pub returns : goal.returns
returns c = cluster-set c.args.keys.now _ c.args.cluster.now c.in_cluster.new.cluster c.in_ok-of.ensures c.in_cluster.ensures.keys c.in_cluster.ensures.below
