-- What was written, the page, and the lines of the rows that are left are the whole listing.
use Rattle.std.proofs.Common.{◌≡◌, ◌++◌, drop}
use Rattle.pac_io.specs.WrittenUpTo.{WrittenUpTo}
use Rattle.reg_table.specs.Listing.{listing}
use Rattle.reg_table.proofs.listing.list_text.Given as goal

abbrev pub invariant-loop-row : goal.invariant-loop-row
invariant-loop-row g l = record {
  growth : WrittenUpTo (g.S.Sink.written l.fn.sink) (g.S.Sink.written l.sink) (listing l.row-items) (l.page ++ listing (drop l.row-index l.row-items));
  cause : g.S.Sink.faults l.sink ≡ g.S.Sink.faults l.fn.sink;
}
