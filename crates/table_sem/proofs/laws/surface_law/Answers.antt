use Rattle.table_sem.proofs.Entries.{rows_have_entries}
use Rattle.table_sem.proofs.EntryRows.{entries_have_rows}
use Rattle.table_sem.proofs.Surfaces.{surface_by_walk, surface_is_named}
use Rattle.table_sem.proofs.laws.surface_law.Goals as goal

pub returns-clause-names : goal.returns-clause-names
returns-clause-names c = surface_is_named

pub returns-clause-rows : goal.returns-clause-rows
returns-clause-rows c = rows_have_entries

pub returns-clause-walk : goal.returns-clause-walk
returns-clause-walk c = surface_by_walk

pub returns-clause-entries : goal.returns-clause-entries
returns-clause-entries c = entries_have_rows
