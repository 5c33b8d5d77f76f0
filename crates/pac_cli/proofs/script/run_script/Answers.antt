use Rattle.std.proofs.Common.{Some, inl, inr}
use Rattle.std.proofs.lemmas.Result.{err_from_is_err_and}
use Rattle.frag_sem.specs.TextSurface.{text_surface}
use Rattle.frag_tree.specs.Trees.{crate_tree}
use Rattle.pac_cli.specs.Answers.{AnswersScript, text_plan}
use Rattle.pac_cli.specs.Worlds.{desk, paper}
use Rattle.pac_cli.proofs.Doing.{not_written}
use Rattle.pac_cli.proofs.Scripts.{all_words, makes_all, makes_first, not_prepared, not_scripted, plans, some_words}
use Rattle.pac_cli.proofs.script.run_script.Goals as goal

pub returns-in_err-script : goal.returns-in_err-script
returns-in_err-script g c =
    let p = err_from_is_err_and c.from_residual.result c.from_residual.ensures.1 in
    let tree = crate_tree c.args.krate.now in
    rw (p.1, p.2) (not_scripted (text_surface tree) (text_plan tree) c.args.script.now
    (desk (paper (g.S.Sink.written c.args.out.now) (g.S.Sink.faults c.args.out.now)) (Some (g.B.Bus.told c.args.bus.now))) c.in_err-script.field-0.0 c.in_err-script.ensures)

pub returns-in_err-ready : goal.returns-in_err-ready
returns-in_err-ready g c =
    let p = err_from_is_err_and c.from_residual-in_err-ready.result c.from_residual-in_err-ready.ensures.1 in
    let tree = crate_tree c.args.krate.now in
    rw p.1 (not_prepared c.args.krate.now c.in_ok-script.script c.in_err-ready.field-0.0.state (g.B.Bus.told c.args.bus.now) (g.B.Bus.told c.prepare.new.bus)
    (AnswersScript (text_surface tree) (text_plan tree) c.args.script.now) (paper (g.S.Sink.written c.args.out.now) (g.S.Sink.faults c.args.out.now)) p.0 p.2
    (plans (text_surface tree) (text_plan tree) c.args.script.now c.in_ok-script.script c.in_ok-script.ensures) c.in_err-ready.ensures)

pub events_text-requires : goal.events_text-requires
events_text-requires g c =
    all_words c.args.krate.now c.in_ok-script.script (g.B.Bus.told c.args.bus.now) (g.B.Bus.told c.prepare.new.bus) c.in_ok-ready.ready c.in_ok-ready.ensures
    (g.B.Bus.told c.run.new.bus) c.in-Ok.events.list c.in-Ok.ensures c.krate-fits.ensures.fits

pub returns-in_err-events_text-in-Ok : goal.returns-in_err-events_text-in-Ok
returns-in_err-events_text-in-Ok g c =
    let p = err_from_is_err_and c.from_residual-in_err-events_text-in-Ok.result c.from_residual-in_err-events_text-in-Ok.ensures.1 in
    let tree = crate_tree c.args.krate.now in
    rw p.1 (not_written (AnswersScript (text_surface tree) (text_plan tree) c.args.script.now)
    (desk (paper (g.S.Sink.written c.args.out.now) (g.S.Sink.faults c.args.out.now)) (Some (g.B.Bus.told c.args.bus.now)))
    (desk (paper (g.S.Sink.written c.events_text.new.sink) (g.S.Sink.faults c.events_text.new.sink)) (Some (g.B.Bus.told c.run.new.bus)))
    c.in_err-events_text-in-Ok.field-0.0 p.0 p.2
    (record {
      plan = text_plan tree c.in_ok-script.script;
      decided = plans (text_surface tree) (text_plan tree) c.args.script.now c.in_ok-script.script c.in_ok-script.ensures;
      events = c.in-Ok.events.list;
      makes = inl (makes_all c.args.krate.now c.in_ok-script.script (g.B.Bus.told c.args.bus.now) (g.B.Bus.told c.prepare.new.bus) c.in_ok-ready.ready c.in_ok-ready.ensures
          (g.B.Bus.told c.run.new.bus) c.in-Ok.events.list c.in-Ok.ensures);
      part = c.in_err-events_text-in-Ok.ensures.growth;
    })
    c.in_err-events_text-in-Ok.ensures.cause)

pub events_text-requires-in-Err : goal.events_text-requires-in-Err
events_text-requires-in-Err g c =
    some_words c.args.krate.now c.in_ok-script.script (g.B.Bus.told c.args.bus.now) (g.B.Bus.told c.prepare.new.bus) c.in_ok-ready.ready c.in_ok-ready.ensures
    (g.B.Bus.told c.run.new.bus) c.in-Err.fault.done c.in-Err.fault.events.list c.in-Err.ensures c.krate-fits.ensures.fits

pub returns-in_err-events_text-in-Err : goal.returns-in_err-events_text-in-Err
returns-in_err-events_text-in-Err g c =
    let p = err_from_is_err_and c.from_residual-in_err-events_text-in-Err.result c.from_residual-in_err-events_text-in-Err.ensures.1 in
    let tree = crate_tree c.args.krate.now in
    rw p.1 (not_written (AnswersScript (text_surface tree) (text_plan tree) c.args.script.now)
    (desk (paper (g.S.Sink.written c.args.out.now) (g.S.Sink.faults c.args.out.now)) (Some (g.B.Bus.told c.args.bus.now)))
    (desk (paper (g.S.Sink.written c.events_text-in-Err.new.sink) (g.S.Sink.faults c.events_text-in-Err.new.sink)) (Some (g.B.Bus.told c.run.new.bus)))
    c.in_err-events_text-in-Err.field-0.0 p.0 p.2
    (record {
      plan = text_plan tree c.in_ok-script.script;
      decided = plans (text_surface tree) (text_plan tree) c.args.script.now c.in_ok-script.script c.in_ok-script.ensures;
      events = c.in-Err.fault.events.list;
      makes = inr (makes_first c.args.krate.now c.in_ok-script.script (g.B.Bus.told c.args.bus.now) (g.B.Bus.told c.prepare.new.bus) c.in_ok-ready.ready c.in_ok-ready.ensures
          (g.B.Bus.told c.run.new.bus) c.in-Err.fault.done c.in-Err.fault.events.list c.in-Err.ensures);
      part = c.in_err-events_text-in-Err.ensures.growth;
    })
    c.in_err-events_text-in-Err.ensures.cause)

pub returns-in_ok-events_text-in-Ok : goal.returns-in_ok-events_text-in-Ok
returns-in_ok-events_text-in-Ok g c =
    let tree = crate_tree c.args.krate.now in
    record {
      count = c.in_ok-events_text-in-Ok.ensures.cause;
      plan = text_plan tree c.in_ok-script.script;
      decided = plans (text_surface tree) (text_plan tree) c.args.script.now c.in_ok-script.script c.in_ok-script.ensures;
      events = c.in-Ok.events.list;
      makes = makes_all c.args.krate.now c.in_ok-script.script (g.B.Bus.told c.args.bus.now) (g.B.Bus.told c.prepare.new.bus) c.in_ok-ready.ready c.in_ok-ready.ensures
          (g.B.Bus.told c.run.new.bus) c.in-Ok.events.list c.in-Ok.ensures;
      whole = c.in_ok-events_text-in-Ok.ensures.growth;
    }

pub returns-in_ok-events_text-in-Err : goal.returns-in_ok-events_text-in-Err
returns-in_ok-events_text-in-Err g c =
    let tree = crate_tree c.args.krate.now in
    record {
      count = c.in_ok-events_text-in-Err.ensures.cause;
      plan = text_plan tree c.in_ok-script.script;
      decided = plans (text_surface tree) (text_plan tree) c.args.script.now c.in_ok-script.script c.in_ok-script.ensures;
      events = c.in-Err.fault.events.list;
      makes = makes_first c.args.krate.now c.in_ok-script.script (g.B.Bus.told c.args.bus.now) (g.B.Bus.told c.prepare.new.bus) c.in_ok-ready.ready c.in_ok-ready.ensures
          (g.B.Bus.told c.run.new.bus) c.in-Err.fault.done c.in-Err.fault.events.list c.in-Err.ensures;
      counted = c.in-Err.ensures.count_is;
      whole = c.in_ok-events_text-in-Err.ensures.growth;
    }
