use Rattle.svd_model.specs.declared.device.Cluster.{out-Cluster}
use Rattle.patch_arrays.proofs.ByKind.{cluster-dimmed, register-dimmed}
use Rattle.patch_arrays.proofs.member.ChildMember.set_dim.Goals as goal

pub returns-in-Cluster : goal.returns-in-Cluster
returns-in-Cluster c =
    let old = out-Cluster c.in-Cluster.cluster in
    cluster-dimmed c.args.self.now c.in-Cluster.cluster _ c.args.count c.args.step c.in-Cluster.is
    (λ i. record { derived = old.derived; dim = c.set_members.ensures i; offset = old.offset; alternate = old.alternate; props = old.props; children = old.children })

pub returns-in-Register : goal.returns-in-Register
returns-in-Register c =
    let old = c.in-Register.register in
    register-dimmed c.args.self.now old _ c.args.count c.args.step c.in-Register.is
    (λ i. record { derived = old.derived; dim = c.set_members-in-Register.ensures i; offset = old.offset; alternate = old.alternate; group = old.group; props = old.props; kind = old.kind; action = old.action; fields = old.fields })
