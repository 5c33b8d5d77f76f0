use Rattle.patch_arrays.proofs.ByKind.{peripheral-start}
use Rattle.patch_arrays.proofs.member.PeripheralMember.offset.Goals as goal

pub returns : goal.returns
returns c = peripheral-start c.args.self.now
