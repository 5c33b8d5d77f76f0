-- The rows are those of the device.
use Rattle.svd_model.specs.Trees.{device_rows}
use Rattle.derive_from.proofs.path.path_in.Given as goal

abbrev pub ghost-path_among : goal.ghost-path_among
ghost-path_among a = device_rows a.device.now
