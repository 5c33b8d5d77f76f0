-- The dimension of a child is what its keys state.
use Rattle.dim_expand.proofs.Stated.{cluster-child-dim, register-child-dim}
use Rattle.dim_expand.proofs.item.dim_of.Goals as goal

pub returns-in-Cluster : goal.returns-in-Cluster
returns-in-Cluster c = cluster-child-dim c.args.child.now c.in-Cluster.cluster c.in-Cluster.is

pub returns-in-Register : goal.returns-in-Register
returns-in-Register c = register-child-dim c.args.child.now c.in-Register.register c.in-Register.is
