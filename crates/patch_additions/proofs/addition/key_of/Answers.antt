use Rattle.std.proofs.Common.{refl, sym, ◌∙◌}
use Rattle.patch_additions.proofs.Parts.{addition-name}
use Rattle.patch_additions.proofs.addition.key_of.Goals as goal

pub returns : goal.returns
returns c = (c.in_ok-copy.ensures ∙ sym (addition-name c.args.addition.now), refl)
