use Rattle.std.proofs.Common.{Some, inl, refl}
use Rattle.std.proofs.lemmas.Result.{err_from_is_err_and}
use Rattle.frag_sem.specs.TextSurface.{text_surface}
use Rattle.frag_tree.specs.Trees.{crate_tree}
use Rattle.pac_io.proofs.WrittenUpTo.{appends_nothing}
use Rattle.pac_cli.specs.Answers.{AnswersScript, text_sum}
use Rattle.pac_cli.specs.Worlds.{desk, paper}
use Rattle.pac_cli.proofs.Doing.{not_written}
use Rattle.pac_cli.proofs.Samples.{not_summed, sums_all, sums_first}
use Rattle.pac_cli.proofs.Scripts.{not_scripted, plans}
use Rattle.pac_cli.proofs.sampling.sum_up.Goals as goal

pub returns-in_err-script : goal.returns-in_err-script
returns-in_err-script g c =
    let p = err_from_is_err_and c.from_residual.result c.from_residual.ensures.1 in
    let tree = crate_tree c.args.krate.now in
    rw (p.1, p.2) (not_scripted (text_surface tree) (text_sum c.args.count tree) c.args.script.now
    (desk (paper (g.S.Sink.written c.args.out.now) (g.S.Sink.faults c.args.out.now)) (Some (g.B.Bus.told c.args.bus.now))) c.in_err-script.field-0.0 c.in_err-script.ensures)

pub returns-in_err-ready : goal.returns-in_err-ready
returns-in_err-ready g c =
    let p = err_from_is_err_and c.from_residual-in_err-ready.result c.from_residual-in_err-ready.ensures.1 in
    let tree = crate_tree c.args.krate.now in
    rw p.1 (not_summed c.args.count c.args.krate.now c.in_ok-script.script c.in_err-ready.field-0.0.state (g.B.Bus.told c.args.bus.now) (g.B.Bus.told c.prepare.new.bus)
    (AnswersScript (text_surface tree) (text_sum c.args.count tree) c.args.script.now) (paper (g.S.Sink.written c.args.out.now) (g.S.Sink.faults c.args.out.now)) p.0 p.2
    (plans (text_surface tree) (text_sum c.args.count tree) c.args.script.now c.in_ok-script.script c.in_ok-script.ensures) c.in_err-ready.ensures)

pub returns-in_err-write_summary-in-Ok : goal.returns-in_err-write_summary-in-Ok
returns-in_err-write_summary-in-Ok g c =
    let p = err_from_is_err_and c.from_residual-in_err-write_summary-in-Ok.result c.from_residual-in_err-write_summary-in-Ok.ensures.1 in
    let tree = crate_tree c.args.krate.now in
    rw p.1 (not_written (AnswersScript (text_surface tree) (text_sum c.args.count tree) c.args.script.now)
    (desk (paper (g.S.Sink.written c.args.out.now) (g.S.Sink.faults c.args.out.now)) (Some (g.B.Bus.told c.args.bus.now)))
    (desk (paper (g.S.Sink.written c.write_summary.new.sink) (g.S.Sink.faults c.write_summary.new.sink)) (Some (g.B.Bus.told c.run.new.bus)))
    c.in_err-write_summary-in-Ok.field-0.0 p.0 p.2
    (record {
      plan = text_sum c.args.count tree c.in_ok-script.script;
      decided = plans (text_surface tree) (text_sum c.args.count tree) c.args.script.now c.in_ok-script.script c.in_ok-script.ensures;
      events = c.in-Ok.events.list;
      makes = inl (sums_all c.args.count c.args.krate.now c.in_ok-script.script (g.B.Bus.told c.args.bus.now) (g.B.Bus.told c.prepare.new.bus) c.in_ok-ready.ready c.in_ok-ready.ensures
          (g.B.Bus.told c.run.new.bus) c.in-Ok.events.list c.in-Ok.ensures);
      part = rw (← c.as_slice.ensures) c.in_err-write_summary-in-Ok.ensures.growth;
    })
    c.in_err-write_summary-in-Ok.ensures.cause)

pub returns-in_ok-write_summary-in-Ok : goal.returns-in_ok-write_summary-in-Ok
returns-in_ok-write_summary-in-Ok g c =
    let tree = crate_tree c.args.krate.now in
    record {
      count = c.in_ok-write_summary-in-Ok.ensures.cause;
      plan = text_sum c.args.count tree c.in_ok-script.script;
      decided = plans (text_surface tree) (text_sum c.args.count tree) c.args.script.now c.in_ok-script.script c.in_ok-script.ensures;
      events = c.in-Ok.events.list;
      makes = sums_all c.args.count c.args.krate.now c.in_ok-script.script (g.B.Bus.told c.args.bus.now) (g.B.Bus.told c.prepare.new.bus) c.in_ok-ready.ready c.in_ok-ready.ensures
          (g.B.Bus.told c.run.new.bus) c.in-Ok.events.list c.in-Ok.ensures;
      whole = rw (← c.as_slice.ensures) c.in_ok-write_summary-in-Ok.ensures.growth;
    }

pub returns-in-Err : goal.returns-in-Err
returns-in-Err g c =
    let tree = crate_tree c.args.krate.now in
    record {
      count = refl;
      plan = text_sum c.args.count tree c.in_ok-script.script;
      decided = plans (text_surface tree) (text_sum c.args.count tree) c.args.script.now c.in_ok-script.script c.in_ok-script.ensures;
      events = c.in-Err.fault.events.list;
      makes = sums_first c.args.count c.args.krate.now c.in_ok-script.script (g.B.Bus.told c.args.bus.now) (g.B.Bus.told c.prepare.new.bus) c.in_ok-ready.ready c.in_ok-ready.ensures
          (g.B.Bus.told c.run.new.bus) c.in-Err.fault.done c.in-Err.fault.events.list c.in-Err.ensures;
      counted = c.in-Err.ensures.count_is;
      whole = appends_nothing (g.S.Sink.written c.args.out.now);
    }
