-- What a child states of how often it stands.
use Rattle.std.proofs.Common.{sym}
use Rattle.reg_table.proofs.Walks.{cluster-count, register-count}
use Rattle.overlap_sweep.proofs.walk.count_of.Goals as goal

pub returns-in-Cluster : goal.returns-in-Cluster
returns-in-Cluster c = sym (cluster-count c.args.item.now c.in-Cluster.cluster c.in-Cluster.is)

pub returns-in-Register : goal.returns-in-Register
returns-in-Register c = sym (register-count c.args.item.now c.in-Register.register c.in-Register.is)
