use Rattle.std.proofs.Common.{◌∙◌}
use Rattle.patch_arrays.proofs.ByKind.{field-dim}
use Rattle.patch_arrays.proofs.member.FieldMember.is_dimmed.Goals as goal

pub returns : goal.returns
returns c = c.is_some.ensures ∙ field-dim c.args.self.now
