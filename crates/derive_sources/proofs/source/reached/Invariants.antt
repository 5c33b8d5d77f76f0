-- The rows are those of this function.
use Rattle.derive_sources.proofs.source.reached.Given as goal

abbrev pub ghost-of_kind : goal.ghost-of_kind
ghost-of_kind g a = g.all

abbrev pub ghost-followed : goal.ghost-followed
ghost-followed g a = g.all
