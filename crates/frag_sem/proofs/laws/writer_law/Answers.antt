use Rattle.frag_sem.proofs.Words.{writer_puts, written_small, reads_written, start_is, start_small, start_plain}
use Rattle.frag_sem.proofs.laws.writer_law.Goals as goal

pub returns-clause-puts : goal.returns-clause-puts
returns-clause-puts c = writer_puts

pub returns-clause-stays : goal.returns-clause-stays
returns-clause-stays c = written_small

pub returns-clause-reads : goal.returns-clause-reads
returns-clause-reads c = reads_written

pub returns-clause-start : goal.returns-clause-start
returns-clause-start c = start_is

pub returns-clause-without_masks : goal.returns-clause-without_masks
returns-clause-without_masks c = start_plain

pub returns-clause-start_stays : goal.returns-clause-start_stays
returns-clause-start_stays c = start_small
