use Rattle.std.proofs.Common.{◌∙◌}
use Rattle.std.proofs.lemmas.List.{length-map}
use Rattle.patch_model.proofs.Adding.{additions_under-is}
use Rattle.patch_model.specs.declared.act.Additions.{out-Additions}
use Rattle.patch_model.proofs.act.Additions.len.Goals as goal

pub returns : goal.returns
returns c = rw (additions_under-is c.args.self.now, length-map) (c.len.ensures ∙ (out-Additions c.args.self.now).items.ok.0)
