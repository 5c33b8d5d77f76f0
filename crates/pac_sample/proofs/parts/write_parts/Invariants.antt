-- What was written, the page, the parts that are left and the tail are the whole text.
use Rattle.std.proofs.Common.{◌≡◌, ◌++◌}
use Rattle.std.specs.List.{flat_map}
use Rattle.pac_io.specs.WrittenUpTo.{WrittenUpTo}
use Rattle.pac_sample.specs.Numbered.{between}
use Rattle.pac_sample.proofs.parts.write_parts.Given as goal

abbrev pub invariant-loop-number : goal.invariant-loop-number
invariant-loop-number g l = record {
  growth : WrittenUpTo (g.S.Sink.written l.fn.sink) (g.S.Sink.written l.sink) (l.head ++ (flat_map (g.P.Parts.part l.parts) (between 0 l.end) ++ l.tail)) (l.page ++ (flat_map (g.P.Parts.part l.parts) (between l.number l.end) ++ l.tail));
  cause : g.S.Sink.faults l.sink ≡ g.S.Sink.faults l.fn.sink;
}
