use Rattle.table_sem.proofs.Runs.{presets_in_range, run_in_range, run_is_answered}
use Rattle.table_sem.proofs.laws.run_law.Goals as goal

pub returns-clause-answers : goal.returns-clause-answers
returns-clause-answers c = run_is_answered

pub returns-clause-events : goal.returns-clause-events
returns-clause-events c = run_in_range

pub returns-clause-presets : goal.returns-clause-presets
returns-clause-presets c = presets_in_range
