use Rattle.std.proofs.Common.{◌∙◌}
use Rattle.patch_arrays.proofs.ByKind.{peripheral-dim}
use Rattle.patch_arrays.proofs.member.PeripheralMember.is_dimmed.Goals as goal

pub returns : goal.returns
returns c = c.is_some.ensures ∙ peripheral-dim c.args.self.now
