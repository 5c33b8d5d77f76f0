-- The first below the device is that among its peripherals.
use Rattle.std.proofs.Common.{map, ap}
use Rattle.overlap_check.specs.Walks.{first_in}
use Rattle.overlap_check.proofs.Firsts.{found_as}
use Rattle.svd_model.specs.Trees.{peripheral_under, device_tree}
use Rattle.svd_rows.specs.Forest.{siblings}
use Rattle.overlap_check.proofs.walk.first_in_device.Goals as goal

pub returns : goal.returns
unfolding device_tree
returns c =
    found_as c.first_in_peripherals.result _ _
    (ap (λ place. first_in c.args.rule place (siblings (map peripheral_under c.args.device.now.peripherals.entries))) c.device-place.ensures)
    c.first_in_peripherals.ensures
