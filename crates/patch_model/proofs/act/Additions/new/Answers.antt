use Rattle.std.proofs.Common.{map, ap, ◌∙◌}
use Rattle.patch_model.specs.Acts.{addition_under}
use Rattle.patch_model.proofs.Adding.{additions_under-roll}
use Rattle.patch_model.proofs.act.Additions.new.Goals as goal

pub returns : goal.returns
returns c = additions_under-roll _ ∙ ap (map addition_under) c.new.ensures.items
