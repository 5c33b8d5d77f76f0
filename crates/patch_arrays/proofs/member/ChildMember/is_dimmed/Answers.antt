use Rattle.std.proofs.Common.{◌∙◌}
use Rattle.patch_arrays.proofs.ByKind.{child-cluster-dim, child-register-dim}
use Rattle.patch_arrays.proofs.member.ChildMember.is_dimmed.Goals as goal

pub returns-in-Cluster : goal.returns-in-Cluster
returns-in-Cluster c = c.is_some.ensures ∙ child-cluster-dim c.args.self.now c.in-Cluster.cluster c.in-Cluster.is

pub returns-in-Register : goal.returns-in-Register
returns-in-Register c = c.is_some-in-Register.ensures ∙ child-register-dim c.args.self.now c.in-Register.register c.in-Register.is
