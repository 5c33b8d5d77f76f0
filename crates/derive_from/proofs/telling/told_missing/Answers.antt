use Rattle.std.proofs.Common.{inr, ap}
use Rattle.derive_from.specs.declared.fault.DeriveFault.TheVariants as told
use Rattle.derive_sources.specs.Numbers.{path_at}
use Rattle.derived_rows.specs.Faults.{missing_parent}
use Rattle.svd_model.specs.Trees.{device_rows}
use Rattle.derive_from.proofs.telling.told_missing.Goals as goal

pub returns : goal.returns
returns c =
    inr (
      missing_parent (path_at (device_rows c.args.device.now) c.args.number) c.in_ok-names_in.field-0,
      (c.requires.missing.1.0, c.in_ok-names_in.ensures),
      ap (λ path. told.MissingParent path c.in_ok-names_in.field-0) c.in_ok-path_in.ensures,
    )
