-- What was written, the page, and the lines of the events that are left are the whole text.
use Rattle.std.proofs.Common.{◌≡◌, ◌++◌, drop}
use Rattle.pac_io.specs.WrittenUpTo.{WrittenUpTo}
use Rattle.pac_bus.specs.EventTexts.{event_text}
use Rattle.pac_bus.proofs.event_lines.events_text.Given as goal

abbrev pub invariant-loop-event : goal.invariant-loop-event
invariant-loop-event g l = record {
  growth : WrittenUpTo (g.S.Sink.written l.fn.sink) (g.S.Sink.written l.sink) (event_text l.event-items) (l.page ++ event_text (drop l.event-index l.event-items));
  cause : g.S.Sink.faults l.sink ≡ g.S.Sink.faults l.fn.sink;
}
