use Rattle.std.proofs.Common.{slice_get, option_map, ap, ◌∙◌}
use Rattle.std.proofs.lemmas.Option.{slice_get-map}
use Rattle.patch_model.specs.Acts.{addition_under}
use Rattle.patch_model.proofs.Adding.{additions_under-is}
use Rattle.patch_model.proofs.act.Additions.get.Goals as goal

pub returns : goal.returns
returns c =
    rw (additions_under-is c.args.self.now, slice_get-map) (ap (option_map addition_under) (c.at.ensures ∙ ap (λ xs. slice_get xs c.args.index) c.as_slice.ensures.value))
