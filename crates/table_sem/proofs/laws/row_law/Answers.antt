use Rattle.table_sem.proofs.Runs.{row_keeps_words}
use Rattle.table_sem.proofs.Walks.{checked_rows_fit}
use Rattle.table_sem.proofs.laws.row_law.Goals as goal

pub returns-clause-words : goal.returns-clause-words
returns-clause-words c = row_keeps_words

pub returns-clause-checked : goal.returns-clause-checked
returns-clause-checked c = checked_rows_fit
