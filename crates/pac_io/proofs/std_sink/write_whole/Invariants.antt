use Rattle.pac_io.specs.WrittenUpTo.{WrittenUpTo}
use Rattle.pac_io.proofs.std_sink.write_whole.Given as goal

abbrev pub invariant-writes : goal.invariant-writes
invariant-writes g l = WrittenUpTo (g.W.Write.contents l.fn.writer) (g.W.Write.contents l.writer) l.bytes l.rest
