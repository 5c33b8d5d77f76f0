use Rattle.block_form.proofs.Names.{names_differ}
use Rattle.block_form.proofs.Rules.{bodies_fit, counts_are_some, paths_lead}
use Rattle.block_form.proofs.laws.rules_law.Goals as goal

pub returns-clause-names : goal.returns-clause-names
returns-clause-names c = names_differ

pub returns-clause-paths : goal.returns-clause-paths
returns-clause-paths c = paths_lead

pub returns-clause-bodies : goal.returns-clause-bodies
returns-clause-bodies c = bodies_fit

pub returns-clause-counts : goal.returns-clause-counts
returns-clause-counts c = counts_are_some
