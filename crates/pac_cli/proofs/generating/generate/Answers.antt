use Rattle.std.proofs.Common.{[]}
use Rattle.std.proofs.lemmas.Result.{err_from_is_err_and}
use Rattle.frag_tree.specs.Crates.{printed}
use Rattle.crate_form.specs.Crates.{emitted}
use Rattle.pac_cli.specs.Answers.{prints, AnswersSource, generated}
use Rattle.pac_cli.specs.Worlds.{alone, paper}
use Rattle.pac_cli.proofs.Doing.{generates_rows, generates_stopped, makes_nothing, not_resolved, not_written, part_of_text, writes_text}
use Rattle.pac_cli.specs.Resolving.{bytes_in}
use Rattle.pac_cli.proofs.generating.generate.Goals as goal

pub returns-in_err-state-clause-does : goal.returns-in_err-state-clause-does
returns-in_err-state-clause-does g c =
    let p = err_from_is_err_and c.from_residual.result c.from_residual.ensures.1 in
    rw (p.1, p.2) (not_resolved generated (bytes_in c.args.source) (alone (paper (g.S.Sink.written c.args.out.now) (g.S.Sink.faults c.args.out.now))) c.in_err-state.field-0.0 generates_stopped c.in_err-state.ensures)

pub returns-in_err-print_text-clause-does : goal.returns-in_err-print_text-clause-does
returns-in_err-print_text-clause-does g c =
    let p = err_from_is_err_and c.from_residual-in_err-print_text.result c.from_residual-in_err-print_text.ensures.1 in
    let old = paper (g.S.Sink.written c.args.out.now) (g.S.Sink.faults c.args.out.now) in
    let new = paper (g.S.Sink.written c.print_text.new.sink) (g.S.Sink.faults c.print_text.new.sink) in
    rw p.1 (not_written (AnswersSource generated (bytes_in c.args.source)) (alone old) (alone new) c.in_err-print_text.field-0.0 p.0 p.2
    (part_of_text (AnswersSource generated (bytes_in c.args.source)) (printed (emitted c.in_ok-state.state)) old new
    (generates_rows (bytes_in c.args.source) c.in_ok-state.state (emitted c.in_ok-state.state) c.in_ok-state.ensures c.print_text.ensures.form) c.in_err-print_text.ensures.growth)
    c.in_err-print_text.ensures.cause)

pub returns-clause-does : goal.returns-clause-does
returns-clause-does g c = record {
  count = c.in_ok-print_text.ensures.cause;
  plan = prints (printed (emitted c.in_ok-state.state));
  decided = generates_rows (bytes_in c.args.source) c.in_ok-state.state (emitted c.in_ok-state.state) c.in_ok-state.ensures c.print_text.ensures.form;
  events = [];
  makes = makes_nothing (printed (emitted c.in_ok-state.state));
  whole = c.in_ok-print_text.ensures.growth;
}

pub returns-clause-headline : goal.returns-clause-headline
returns-clause-headline g c =
    writes_text (bytes_in c.args.source) c.in_ok-state.state (emitted c.in_ok-state.state) (g.S.Sink.written c.args.out.now) (g.S.Sink.written c.print_text.new.sink)
    c.in_ok-state.ensures c.in_ok-print_text.ensures.valid c.print_text.ensures.form c.print_text.ensures.stands c.in_ok-print_text.ensures.growth
