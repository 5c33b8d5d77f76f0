use Rattle.std.proofs.Common.{Some, ◌∙◌}
use Rattle.std.proofs.lemmas.Result.{err_from_is_err_and}
use Rattle.frag_sem.specs.TextSurface.{text_surface}
use Rattle.frag_tree.specs.Trees.{crate_tree}
use Rattle.pac_cli.specs.Answers.{AnswersRun, AnswersScript, text_plan}
use Rattle.pac_cli.specs.Worlds.{desk, paper}
use Rattle.pac_cli.proofs.Doing.{does_otherwise, lacks_memory, stopped_by}
use Rattle.pac_cli.proofs.Scripts.{answers_run, stops_run}
use Rattle.pac_cli.specs.Resolving.{bytes_in}
use Rattle.pac_cli.proofs.running.run_against.Goals as goal

pub returns-in_err-state : goal.returns-in_err-state
returns-in_err-state g c =
    let p = err_from_is_err_and c.from_residual.result c.from_residual.ensures.1 in
    rw (p.1, p.2) (stopped_by (AnswersRun (bytes_in c.args.source) c.args.script.now) (bytes_in c.args.source)
    (desk (paper (g.S.Sink.written c.args.out.now) (g.S.Sink.faults c.args.out.now)) (Some (g.B.Bus.told c.args.bus.now))) c.in_err-state.field-0.0
    (stops_run (bytes_in c.args.source) c.args.script.now) c.in_err-state.ensures)

pub returns-in_err-krate : goal.returns-in_err-krate
returns-in_err-krate g c =
    let p = err_from_is_err_and c.from_residual-in_err-krate.result c.from_residual-in_err-krate.ensures.1 in
    rw p.1 (lacks_memory (AnswersRun (bytes_in c.args.source) c.args.script.now)
    (desk (paper (g.S.Sink.written c.args.out.now) (g.S.Sink.faults c.args.out.now)) (Some (g.B.Bus.told c.args.bus.now))) p.0 (p.2 ∙ c.in_err-krate.ensures.memory))

pub returns : goal.returns
returns g c =
    let tree = crate_tree c.in_ok-krate.krate in
    does_otherwise (AnswersScript (text_surface tree) (text_plan tree) c.args.script.now) (AnswersRun (bytes_in c.args.source) c.args.script.now)
    (λ answer decided. answers_run (bytes_in c.args.source) c.in_ok-state.state tree c.args.script.now answer c.in_ok-state.ensures c.in_ok-krate.ensures.stands decided)
    (desk (paper (g.S.Sink.written c.args.out.now) (g.S.Sink.faults c.args.out.now)) (Some (g.B.Bus.told c.args.bus.now)))
    (desk (paper (g.S.Sink.written c.run_script.new.out) (g.S.Sink.faults c.run_script.new.out)) (Some (g.B.Bus.told c.run_script.new.bus)))
    c.run_script.result c.run_script.ensures
