-- The rows are those of the device.
use Rattle.svd_model.specs.Trees.{device_rows}
use Rattle.derive_sources.proofs.device.sources_of.Given as goal

abbrev pub ghost-told_sources : goal.ghost-told_sources
ghost-told_sources a = device_rows a.device.now
