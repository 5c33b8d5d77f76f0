-- Each line goes to the page, and the page goes on to the sink.
use Rattle.std.proofs.Common.{List, ◌∙◌, subst}
use Rattle.std.proofs.lemmas.Result.{err_from_is_err_and}
use Rattle.frag_tree.specs.declared.event.Event.{Event}
use Rattle.pac_io.specs.WrittenUpTo.{WrittenUpTo}
use Rattle.pac_io.specs.Writing.{AppendsPrefix}
use Rattle.pac_io.proofs.WrittenUpTo.{run_of_writes}
use Rattle.pac_bus.specs.EventTexts.{event_text}
use Rattle.pac_bus.proofs.EventLines.{line_went_on, line_broke_off, all_lines}
use Rattle.pac_bus.proofs.event_lines.events_text.Goals as goal

pub returns-in_err-turn-clause-growth : goal.returns-in_err-turn-clause-growth
returns-in_err-turn-clause-growth g c =
    let p = err_from_is_err_and c.from_residual-in_err-turn.result c.from_residual-in_err-turn.ensures.1 in
    let events = c.as_slice-event-items.result.now in
    let whole = line_broke_off (g.S.Sink.written c.args.sink.now) (g.S.Sink.written c.loop-event.sink) (g.S.Sink.written c.turn.new.sink) events c.loop-event.event-index _ c.loop-event.page c.push_event.new.page c.loop-event-test.true c.in_ok-push_event.ensures c.loop-event.invariant.growth c.in_err-turn.ensures.growth in
    rw p.1 (subst (λ (all : List Event). AppendsPrefix (g.S.Sink.written c.args.sink.now) (g.S.Sink.written c.turn.new.sink) (event_text all)) c.as_slice-event-items.ensures whole)

pub loop-event-preserved : goal.loop-event-preserved
loop-event-preserved g c = record {
  growth = line_went_on (g.S.Sink.written c.args.sink.now) (g.S.Sink.written c.loop-event.sink) (g.S.Sink.written c.turn.new.sink) c.as_slice-event-items.result.now c.loop-event.event-index _ c.loop-event.page c.push_event.new.page c.turn.new.self c.loop-event-test.true c.in_ok-push_event.ensures c.loop-event.invariant.growth c.in_ok-turn.ensures.growth;
  cause = c.in_ok-turn.ensures.cause ∙ c.loop-event.invariant.cause;
}

pub returns-clause-growth : goal.returns-clause-growth
returns-clause-growth g c =
    let whole = all_lines (g.S.Sink.written c.args.sink.now) (g.S.Sink.written c.loop-event.sink) c.as_slice-event-items.result.now c.loop-event.event-index c.loop-event.page c.loop-event-test.false c.loop-event.invariant.growth in
    run_of_writes c.finish.result (g.S.Sink.written c.finish.new.sink) (subst (λ (all : List Event). WrittenUpTo (g.S.Sink.written c.args.sink.now) (g.S.Sink.written c.loop-event.sink) (event_text all) c.loop-event.page) c.as_slice-event-items.ensures whole) c.finish.ensures.growth
