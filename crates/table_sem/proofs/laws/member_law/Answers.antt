use Rattle.table_sem.proofs.Places.{member_is_put, member_reads_back, written_is_put}
use Rattle.table_sem.proofs.Rows.{type_is_least}
use Rattle.table_sem.proofs.laws.member_law.Goals as goal

pub returns-clause-puts : goal.returns-clause-puts
returns-clause-puts c = member_is_put

pub returns-clause-reads : goal.returns-clause-reads
returns-clause-reads c = member_reads_back

pub returns-clause-text : goal.returns-clause-text
returns-clause-text c = written_is_put

pub returns-clause-types : goal.returns-clause-types
returns-clause-types c = type_is_least
