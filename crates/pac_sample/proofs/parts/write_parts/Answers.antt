-- Each part goes to the page, and the page goes on to the sink.
use Rattle.std.proofs.Common.{List, ℕ, ◌∙◌, subst}
use Rattle.std.proofs.lemmas.Result.{err_from_is_err_and}
use Rattle.pac_io.specs.Writing.{Writes}
use Rattle.pac_io.proofs.WrittenUpTo.{none_written, run_of_writes}
use Rattle.pac_sample.proofs.Numbered.{part_broke_off, part_went_on, parts_ended}
use Rattle.pac_sample.proofs.parts.write_parts.Goals as goal

pub returns-in_err-push-clause-growth : goal.returns-in_err-push-clause-growth
returns-in_err-push-clause-growth g c = let p = err_from_is_err_and c.from_residual.result c.from_residual.ensures.1 in rw p.1 (none_written _ _)

pub returns-in_err-turn-clause-growth : goal.returns-in_err-turn-clause-growth
returns-in_err-turn-clause-growth g c =
    let p = err_from_is_err_and c.from_residual-in_err-turn.result c.from_residual-in_err-turn.ensures.1 in
    rw p.1 (part_broke_off (g.P.Parts.part c.args.parts.now) c.loop-number.number c.args.end c.args.tail.now (g.S.Sink.written c.args.sink.now) (g.S.Sink.written c.loop-number.sink) _ c.loop-number.page (g.S.Sink.written c.turn.new.sink) c.push_part.new.page c.loop-number-test.true c.in_ok-push_part.ensures c.loop-number.invariant.growth c.in_err-turn.ensures.growth)

pub loop-number-preserved : goal.loop-number-preserved
loop-number-preserved g c = record {
  growth = part_went_on (g.P.Parts.part c.args.parts.now) c.loop-number.number c.args.end c.args.tail.now (g.S.Sink.written c.args.sink.now) (g.S.Sink.written c.loop-number.sink) _ c.loop-number.page (g.S.Sink.written c.turn.new.sink) c.push_part.new.page c.turn.new.self c.loop-number-test.true c.in_ok-push_part.ensures c.loop-number.invariant.growth c.in_ok-turn.ensures.growth;
  cause = c.in_ok-turn.ensures.cause ∙ c.loop-number.invariant.cause;
}

pub returns-clause-growth : goal.returns-clause-growth
returns-clause-growth g c =
    let left = parts_ended (g.P.Parts.part c.args.parts.now) c.loop-number.number c.args.end c.args.tail.now (g.S.Sink.written c.args.sink.now) (g.S.Sink.written c.loop-number.sink) _ c.loop-number.page c.loop-number-test.false c.loop-number.invariant.growth in
    let last = subst (λ (text : List ℕ). Writes c.finish.result (g.S.Sink.written c.loop-number.sink) (g.S.Sink.written c.finish.new.sink) text) c.in_ok-push-2.ensures.ok c.finish.ensures.growth in
    run_of_writes c.finish.result (g.S.Sink.written c.finish.new.sink) left last
