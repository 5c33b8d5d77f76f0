use Rattle.std.proofs.Common.{List, ℕ, Some, ◌∙◌, subst}
use Rattle.std.proofs.lemmas.Result.{err_from_is_err_and}
use Rattle.frag_sem.specs.TextSurface.{text_surface}
use Rattle.frag_tree.specs.Trees.{crate_tree}
use Rattle.pac_cli.specs.Answers.{AnswersSample, AnswersScript, sample_bytes, text_sum}
use Rattle.pac_cli.specs.Resolving.{ComeTo, SourceBytes, resolved}
use Rattle.pac_cli.specs.Stages.{ResolvesNot}
use Rattle.pac_cli.specs.Worlds.{desk, paper}
use Rattle.pac_cli.proofs.Doing.{does_otherwise, lacks_memory, stopped_by}
use Rattle.pac_cli.proofs.Samples.{answers_sample, made_bytes, made_fits, script_fits, stops_sample}
use Rattle.pac_fault.specs.Classes.{class_of}
use Rattle.pac_cli.proofs.sampling.sample.Goals as goal

pub returns-in_err-svd : goal.returns-in_err-svd
returns-in_err-svd g c =
    let p = err_from_is_err_and c.from_residual.result c.from_residual.ensures.1 in
    rw p.1 (lacks_memory (AnswersSample c.args.number c.args.count)
    (desk (paper (g.S.Sink.written c.args.out.now) (g.S.Sink.faults c.args.out.now)) (Some (g.B.Bus.told c.args.bus.now))) p.0 p.2)

pub returns-in_err-script : goal.returns-in_err-script
returns-in_err-script g c =
    let p = err_from_is_err_and c.from_residual-in_err-script.result c.from_residual-in_err-script.ensures.1 in
    rw p.1 (lacks_memory (AnswersSample c.args.number c.args.count)
    (desk (paper (g.S.Sink.written c.args.out.now) (g.S.Sink.faults c.args.out.now)) (Some (g.B.Bus.told c.args.bus.now))) p.0 p.2)

pub resolve-requires : goal.resolve-requires
resolve-requires g c = made_fits c.as_slice.result.now c.args.number c.args.count c.requires (c.as_slice.ensures.value ∙ c.in_ok-svd.ensures)

pub returns-in_err-state : goal.returns-in_err-state
returns-in_err-state g c =
    let p = err_from_is_err_and c.from_residual-in_err-state.result c.from_residual-in_err-state.ensures.1 in
    rw (p.1, p.2) (stopped_by (AnswersSample c.args.number c.args.count) (sample_bytes c.args.number c.args.count)
    (desk (paper (g.S.Sink.written c.args.out.now) (g.S.Sink.faults c.args.out.now)) (Some (g.B.Bus.told c.args.bus.now))) c.in_err-state.field-0.0
    (stops_sample c.args.number c.args.count)
    (subst (λ (source : SourceBytes). ResolvesNot (class_of c.in_err-state.field-0.0) source c.in_err-state.field-0.0)
    (made_bytes c.as_slice.result.now c.args.number c.args.count (c.as_slice.ensures.value ∙ c.in_ok-svd.ensures)) c.in_err-state.ensures))

pub returns-in_err-krate : goal.returns-in_err-krate
returns-in_err-krate g c =
    let p = err_from_is_err_and c.from_residual-in_err-krate.result c.from_residual-in_err-krate.ensures.1 in
    rw p.1 (lacks_memory (AnswersSample c.args.number c.args.count)
    (desk (paper (g.S.Sink.written c.args.out.now) (g.S.Sink.faults c.args.out.now)) (Some (g.B.Bus.told c.args.bus.now))) p.0 (p.2 ∙ c.in_err-krate.ensures.memory))

pub sum_up-requires : goal.sum_up-requires
sum_up-requires g c = script_fits c.as_slice-2.result.now c.args.count c.requires (c.as_slice-2.ensures.value ∙ c.in_ok-script.ensures)

pub returns : goal.returns
returns g c =
    let tree = crate_tree c.in_ok-krate.krate in
    let same = c.as_slice-2.ensures.value ∙ c.in_ok-script.ensures in
    let bytes = made_bytes c.as_slice.result.now c.args.number c.args.count (c.as_slice.ensures.value ∙ c.in_ok-svd.ensures) in
    let comes = subst (λ (source : SourceBytes). ComeTo source (resolved c.in_ok-state.state)) bytes c.in_ok-state.ensures in
    does_otherwise (AnswersScript (text_surface tree) (text_sum c.args.count tree) c.as_slice-2.result.now) (AnswersSample c.args.number c.args.count)
    (λ answer decided. answers_sample c.args.number c.args.count c.in_ok-state.state tree answer comes c.in_ok-krate.ensures.stands
    (subst (λ (script : List ℕ). AnswersScript (text_surface tree) (text_sum c.args.count tree) script answer) same decided))
    (desk (paper (g.S.Sink.written c.args.out.now) (g.S.Sink.faults c.args.out.now)) (Some (g.B.Bus.told c.args.bus.now)))
    (desk (paper (g.S.Sink.written c.sum_up.new.out) (g.S.Sink.faults c.sum_up.new.out)) (Some (g.B.Bus.told c.sum_up.new.bus)))
    c.sum_up.result c.sum_up.ensures
