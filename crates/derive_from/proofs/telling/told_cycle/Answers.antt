use Rattle.std.proofs.Common.{inr, ap}
use Rattle.derive_from.specs.declared.fault.DeriveFault.TheVariants as told
use Rattle.derive_sources.specs.Numbers.{path_at}
use Rattle.derived_rows.specs.Faults.{derive_cycle}
use Rattle.svd_model.specs.Trees.{device_rows}
use Rattle.derive_from.proofs.telling.told_cycle.Goals as goal

pub returns : goal.returns
returns c =
    inr (derive_cycle (path_at (device_rows c.args.device.now) c.args.number), c.requires.cycle, ap told.DeriveCycle c.in_ok-path_in.ensures)
