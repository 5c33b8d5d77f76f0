-- The rows are those of this function.
use Rattle.derive_sources.proofs.device.told_sources.Given as goal

abbrev pub ghost-sources : goal.ghost-sources
ghost-sources g a = g.all
