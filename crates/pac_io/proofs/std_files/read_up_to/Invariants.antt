use Rattle.std.proofs.Common.{◌≤◌, vec_len}
use Rattle.std.specs.Io.KnownBytes.{Consumes}
use Rattle.pac_io.proofs.std_files.read_up_to.Given as goal

abbrev pub invariant-reads : goal.invariant-reads
invariant-reads g l = (vec_len l.held ≤ l.limit) × Consumes (g.R.Read.remaining l.fn.reader) (g.R.Read.remaining l.reader) l.held.items
