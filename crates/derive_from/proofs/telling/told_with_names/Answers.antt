use Rattle.std.proofs.Common.{inr, refl, subst}
use Rattle.derive_order.specs.Faults.{IsFaultAt}
use Rattle.derived_rows.specs.Faults.{too_many}
use Rattle.svd_model.specs.Trees.{device_rows}
use Rattle.derive_from.proofs.telling.told_with_names.Goals as goal

pub returns-in-TooMany : goal.returns-in-TooMany
returns-in-TooMany c =
    inr (too_many c.in-TooMany.count, subst (IsFaultAt (device_rows c.args.device.now)) c.in-TooMany.is c.requires.fault, refl)
