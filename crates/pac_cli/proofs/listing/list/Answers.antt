use Rattle.std.proofs.Common.{[], subst}
use Rattle.std.proofs.lemmas.Result.{err_from_is_err_and}
use Rattle.std.specs.Io.KnownBytes.{Appends}
use Rattle.pac_io.specs.Writing.{AppendsPrefix}
use Rattle.reg_table.specs.Listing.{listing}
use Rattle.reg_table.specs.Registers.{table_of}
use Rattle.pac_cli.specs.Answers.{prints, AnswersSource, listed}
use Rattle.pac_cli.specs.Worlds.{alone, paper}
use Rattle.pac_cli.proofs.Doing.{makes_nothing, not_resolved, not_written, part_of_text, lists_stopped, lists_rows}
use Rattle.pac_cli.specs.Resolving.{bytes_in}
use Rattle.pac_cli.proofs.listing.list.Goals as goal

pub returns-in_err-state : goal.returns-in_err-state
returns-in_err-state g c =
    let p = err_from_is_err_and c.from_residual.result c.from_residual.ensures.1 in
    rw (p.1, p.2) (not_resolved listed (bytes_in c.args.source) (alone (paper (g.S.Sink.written c.args.out.now) (g.S.Sink.faults c.args.out.now))) c.in_err-state.field-0.0 lists_stopped c.in_err-state.ensures)

pub returns-in_err-list_text : goal.returns-in_err-list_text
returns-in_err-list_text g c =
    let p = err_from_is_err_and c.from_residual-in_err-list_text.result c.from_residual-in_err-list_text.ensures.1 in
    let old = paper (g.S.Sink.written c.args.out.now) (g.S.Sink.faults c.args.out.now) in
    let new = paper (g.S.Sink.written c.list_text.new.sink) (g.S.Sink.faults c.list_text.new.sink) in
    rw p.1 (not_written (AnswersSource listed (bytes_in c.args.source)) (alone old) (alone new) c.in_err-list_text.field-0.0 p.0 p.2
    (part_of_text (AnswersSource listed (bytes_in c.args.source)) (listing (table_of c.in_ok-state.state)) old new
    (lists_rows (bytes_in c.args.source) c.in_ok-state.state c.in_ok-state.ensures)
    (subst (λ (rows : _). AppendsPrefix (g.S.Sink.written c.args.out.now) (g.S.Sink.written c.list_text.new.sink) (listing rows)) c.in_ok-rows.ensures.rows c.in_err-list_text.ensures.growth))
    c.in_err-list_text.ensures.cause)

pub returns : goal.returns
returns g c = record {
  count = c.in_ok-list_text.ensures.cause;
  plan = prints (listing (table_of c.in_ok-state.state));
  decided = lists_rows (bytes_in c.args.source) c.in_ok-state.state c.in_ok-state.ensures;
  events = [];
  makes = makes_nothing (listing (table_of c.in_ok-state.state));
  whole = subst (λ (rows : _). Appends (g.S.Sink.written c.args.out.now) (g.S.Sink.written c.list_text.new.sink) (listing rows)) c.in_ok-rows.ensures.rows c.in_ok-list_text.ensures.growth;
}
