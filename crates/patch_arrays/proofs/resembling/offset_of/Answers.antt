use Rattle.patch_arrays.proofs.ByKind.{cluster-made, register-made}
use Rattle.patch_arrays.proofs.resembling.offset_of.Goals as goal

pub returns-in-Cluster : goal.returns-in-Cluster
returns-in-Cluster c = cluster-made c.args.child.now c.in-Cluster.cluster c.in-Cluster.is

pub returns-in-Register : goal.returns-in-Register
returns-in-Register c = register-made c.args.child.now c.in-Register.register c.in-Register.is
