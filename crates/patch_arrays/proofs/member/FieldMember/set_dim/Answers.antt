use Rattle.patch_arrays.proofs.ByKind.{field-dimmed}
use Rattle.patch_arrays.proofs.member.FieldMember.set_dim.Goals as goal

pub returns : goal.returns
returns c =
    field-dimmed c.args.self.now _ c.args.count c.args.step
    (λ i. record { derived = c.args.self.now.derived; dim = c.set_members.ensures i; place = c.args.self.now.place; access = c.args.self.now.access; kind = c.args.self.now.kind; action = c.args.self.now.action; values = c.args.self.now.values })
