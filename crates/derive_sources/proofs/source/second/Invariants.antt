-- The rows are those of this function.
use Rattle.derive_sources.proofs.source.second.Given as goal

abbrev pub ghost-set_named : goal.ghost-set_named
ghost-set_named g a = g.all
