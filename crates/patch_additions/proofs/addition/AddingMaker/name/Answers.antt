use Rattle.std.proofs.Common.{sym}
use Rattle.patch_additions.proofs.Parts.{addition-name}
use Rattle.patch_additions.proofs.addition.AddingMaker.name.Goals as goal

pub returns : goal.returns
returns c = sym (addition-name c.args.self.now.addition.now)
