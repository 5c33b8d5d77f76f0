use Rattle.table_sem.proofs.StartNumbers.{start_is_one, start_is_start, start_stays}
use Rattle.table_sem.proofs.laws.start_law.Goals as goal

pub returns-clause-bits : goal.returns-clause-bits
returns-clause-bits c = start_is_start

pub returns-clause-stays : goal.returns-clause-stays
returns-clause-stays c = start_stays

pub returns-clause-one : goal.returns-clause-one
returns-clause-one c = start_is_one
