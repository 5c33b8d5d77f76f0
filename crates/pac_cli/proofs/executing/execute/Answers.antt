use Rattle.std.proofs.Common.{Some}
use Rattle.std.proofs.lemmas.Result.{err_from_is_err_and}
use Rattle.frag_tree.specs.Trees.{crate_tree}
use Rattle.frag_sem.specs.TextSurface.{text_surface}
use Rattle.pac_cli.specs.Answers.{AnswersScript, AnswersText, text_plan}
use Rattle.pac_cli.specs.Worlds.{desk, paper}
use Rattle.pac_cli.proofs.Doing.{does_otherwise}
use Rattle.pac_cli.proofs.Scripts.{answers_text, not_crate}
use Rattle.pac_cli.proofs.executing.execute.Goals as goal

pub returns-in_err-typed : goal.returns-in_err-typed
returns-in_err-typed g c =
    let p = err_from_is_err_and c.from_residual.result c.from_residual.ensures.1 in
    rw (p.1, p.2) (not_crate c.args.krate.now c.args.script.now
    (desk (paper (g.S.Sink.written c.args.out.now) (g.S.Sink.faults c.args.out.now)) (Some (g.B.Bus.told c.args.bus.now))) c.in_err-typed.field-0.0 c.in_err-typed.ensures)

pub returns : goal.returns
returns g c =
    let tree = crate_tree c.in_ok-typed.typed in
    does_otherwise (AnswersScript (text_surface tree) (text_plan tree) c.args.script.now) (AnswersText c.args.krate.now c.args.script.now)
    (λ answer decided. answers_text c.args.krate.now c.args.script.now tree answer c.in_ok-typed.ensures decided)
    (desk (paper (g.S.Sink.written c.args.out.now) (g.S.Sink.faults c.args.out.now)) (Some (g.B.Bus.told c.args.bus.now)))
    (desk (paper (g.S.Sink.written c.run_script.new.out) (g.S.Sink.faults c.run_script.new.out)) (Some (g.B.Bus.told c.run_script.new.bus)))
    c.run_script.result c.run_script.ensures
