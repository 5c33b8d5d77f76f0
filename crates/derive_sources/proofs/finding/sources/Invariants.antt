-- The rows are those of this function.
use Rattle.derive_sources.proofs.finding.sources.Given as goal

abbrev pub ghost-source_list : goal.ghost-source_list
ghost-source_list g a = g.all

abbrev pub ghost-first_missing : goal.ghost-first_missing
ghost-first_missing g a = g.all
