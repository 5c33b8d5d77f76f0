-- Each row goes to the page, and the page goes on to the sink.
use Rattle.std.proofs.Common.{ℕ, ◌+◌, List, ◌++◌, drop, ◌∙◌, subst}
use Rattle.std.proofs.lemmas.List.{append-nil}
use Rattle.std.proofs.lemmas.Result.{err_from_is_err_and}
use Rattle.pac_io.specs.WrittenUpTo.{WrittenUpTo}
use Rattle.pac_io.specs.Writing.{AppendsPrefix}
use Rattle.pac_io.proofs.WrittenUpTo.{page_went_on, page_broke_off, run_of_writes}
use Rattle.reg_table.specs.Listing.{listing, row_lines}
use Rattle.reg_table.specs.declared.row.Row.{Row as TableRow}
use Rattle.svd_model.proofs.Lists.{from_place, drop_past}
use Rattle.reg_table.proofs.listing.list_text.Goals as goal

pub returns-in_err-turn-clause-growth : goal.returns-in_err-turn-clause-growth
returns-in_err-turn-clause-growth g c =
    let p = err_from_is_err_and c.from_residual-in_err-turn.result c.from_residual-in_err-turn.ensures.1 in
    let left = from_place c.as_slice-row-items.result.now c.loop-row.row-index c.row-item.result c.loop-row-test.true c.row-item.is in
    let before = subst (λ (rows : List TableRow). WrittenUpTo (g.S.Sink.written c.args.sink.now) (g.S.Sink.written c.loop-row.sink) (listing c.as_slice-row-items.result.now) (c.loop-row.page ++ listing rows)) left c.loop-row.invariant.growth in
    let more = subst (λ (text : List ℕ). AppendsPrefix (g.S.Sink.written c.loop-row.sink) (g.S.Sink.written c.turn.new.sink) text) c.in_ok-push_row.ensures c.in_err-turn.ensures.growth in
    let whole = subst (λ (rows : List TableRow). AppendsPrefix (g.S.Sink.written c.args.sink.now) (g.S.Sink.written c.turn.new.sink) (listing rows)) c.as_slice-row-items.ensures (page_broke_off c.loop-row.page (row_lines c.row-item.result) (listing (drop (c.loop-row.row-index + 1) c.as_slice-row-items.result.now)) before more) in
    rw p.1 whole

pub loop-row-preserved : goal.loop-row-preserved
loop-row-preserved g c =
    let left = from_place c.as_slice-row-items.result.now c.loop-row.row-index c.row-item.result c.loop-row-test.true c.row-item.is in
    let before = subst (λ (rows : List TableRow). WrittenUpTo (g.S.Sink.written c.args.sink.now) (g.S.Sink.written c.loop-row.sink) (listing c.as_slice-row-items.result.now) (c.loop-row.page ++ listing rows)) left c.loop-row.invariant.growth in
    let more = subst (λ (text : List ℕ). WrittenUpTo (g.S.Sink.written c.loop-row.sink) (g.S.Sink.written c.turn.new.sink) text c.turn.new.self) c.in_ok-push_row.ensures c.in_ok-turn.ensures.growth in
    record {
      growth = page_went_on c.loop-row.page (row_lines c.row-item.result) (listing (drop (c.loop-row.row-index + 1) c.as_slice-row-items.result.now)) c.turn.new.self before more;
      cause = c.in_ok-turn.ensures.cause ∙ c.loop-row.invariant.cause;
    }

pub returns-clause-growth : goal.returns-clause-growth
returns-clause-growth g c =
    let past = drop_past c.as_slice-row-items.result.now c.loop-row.row-index c.loop-row-test.false in
    let left = subst (λ (rows : List TableRow). WrittenUpTo (g.S.Sink.written c.args.sink.now) (g.S.Sink.written c.loop-row.sink) (listing c.as_slice-row-items.result.now) (c.loop-row.page ++ listing rows)) past c.loop-row.invariant.growth in
    let before = subst (λ (text : List ℕ). WrittenUpTo (g.S.Sink.written c.args.sink.now) (g.S.Sink.written c.loop-row.sink) (listing c.as_slice-row-items.result.now) text) (append-nil c.loop-row.page) left in
    let whole = subst (λ (rows : List TableRow). WrittenUpTo (g.S.Sink.written c.args.sink.now) (g.S.Sink.written c.loop-row.sink) (listing rows) c.loop-row.page) c.as_slice-row-items.ensures before in
    run_of_writes c.finish.result (g.S.Sink.written c.finish.new.sink) whole c.finish.ensures.growth
