use Rattle.patch_arrays.proofs.ByKind.{peripheral-dimmed}
use Rattle.patch_arrays.proofs.member.PeripheralMember.set_dim.Goals as goal

pub returns : goal.returns
returns c =
    peripheral-dimmed c.args.self.now _ c.args.count c.args.step
    (λ i. record { derived = c.args.self.now.derived; dim = c.set_members.ensures i; base = c.args.self.now.base; props = c.args.self.now.props; children = c.args.self.now.children })
