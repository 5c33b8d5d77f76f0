use Rattle.pac_io.proofs.WrittenUpTo.{none_written}
use Rattle.pac_io.proofs.mem_sink.MemSinkSink.write_all.Goals as goal

pub returns-then-begin-clause-growth : goal.returns-then-begin-clause-growth
returns-then-begin-clause-growth c = none_written _ _
