-- The rows are those of this function.
use Rattle.derive_sources.proofs.source.source_of.Given as goal

abbrev pub ghost-sought : goal.ghost-sought
ghost-sought g a = g.all
