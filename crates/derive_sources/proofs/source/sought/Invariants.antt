-- The rows are those of this function.
use Rattle.derive_sources.proofs.source.sought.Given as goal

abbrev pub ghost-nearest : goal.ghost-nearest
ghost-nearest g a = g.all

abbrev pub ghost-second : goal.ghost-second
ghost-second g a = g.all
