use Rattle.std.proofs.Common.{◌∙◌}
use Rattle.patch_arrays.proofs.ByKind.{field-start}
use Rattle.patch_arrays.proofs.member.FieldMember.offset.Goals as goal

pub returns : goal.returns
returns c = c.unwrap_or.ensures ∙ field-start c.args.self.now
