use Rattle.std.proofs.Common.{refl}
use Rattle.pac_io.proofs.WrittenUpTo.{none_written}
use Rattle.pac_cli.proofs.telling.tell.Goals as goal

pub returns-in_default-fault_line : goal.returns-in_default-fault_line
returns-in_default-fault_line g c = rw c.in-Some.is (record { text = none_written (g.E.Sink.written c.args.err.now) _; count = refl })
