-- The rows are those of the device.
use Rattle.svd_model.specs.Trees.{device_rows}
use Rattle.derive_order.proofs.judging.judged.Given as goal

abbrev pub ghost-judged_rows : goal.ghost-judged_rows
ghost-judged_rows a = device_rows a.device.now
