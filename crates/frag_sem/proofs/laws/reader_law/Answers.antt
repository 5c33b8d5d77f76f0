use Rattle.frag_sem.proofs.Words.{reader_gets, bit_reader_gets}
use Rattle.frag_sem.proofs.laws.reader_law.Goals as goal

pub returns-clause-field : goal.returns-clause-field
returns-clause-field c = reader_gets

pub returns-clause-bit : goal.returns-clause-bit
returns-clause-bit c = bit_reader_gets
