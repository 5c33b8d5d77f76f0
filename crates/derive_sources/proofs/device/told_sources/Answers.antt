use Rattle.std.proofs.Common.{◌∙◌, map, sym, ap, subst}
use Rattle.derive_sources.specs.Entries.{plain}
use Rattle.derive_sources.specs.Numbers.{AreNumbered}
use Rattle.derive_sources.proofs.Numbering.{numbered}
use Rattle.svd_model.proofs.Steps.{same_step-finer}
use Rattle.svd_model.specs.Steps.{same_key, same_step}
use Rattle.svd_model.specs.Trees.{device_rows, device_tree}
use Rattle.svd_rows.proofs.Facts.{IsDistinct-finer}
use Rattle.derive_sources.proofs.device.told_sources.Goals as goal

pub sources-requires : goal.sources-requires
sources-requires g c =
    subst (λ all. AreNumbered all (map plain c.as_slice.result.now)) (sym c.requires.0)
    (subst (AreNumbered (device_rows c.args.device.now)) (sym c.in_ok-entries.ensures ∙ ap (map plain) (sym c.as_slice.ensures.value))
    (numbered (device_tree c.args.device.now) (IsDistinct-finer same_key same_step same_step-finer (device_tree c.args.device.now).below c.requires.1.distinct)))
