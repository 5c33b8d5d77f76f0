use Rattle.std.proofs.Common.{◌∙◌, subst, sym}
use Rattle.std.proofs.lemmas.Result.{err_from_is_err_and}
use Rattle.frag_emit.specs.Standing.{StandsFor}
use Rattle.frag_tree.specs.Trees.{crate_tree}
use Rattle.frag_tree.specs.declared.krate.Crate.{Crate}
use Rattle.pac_cli.proofs.Scripts.{only_memory}
use Rattle.pac_cli.proofs.running.emitted.Goals as goal

pub returns-in_err-typed-clause-memory : goal.returns-in_err-typed-clause-memory
returns-in_err-typed-clause-memory c =
    let p = err_from_is_err_and c.from_residual-in_err-typed.result c.from_residual-in_err-typed.ensures.1 in
    rw p.1 (p.2 ∙ only_memory (crate_tree c.in_ok-krate.krate) c.in_err-typed.field-0.0.fault c.in_ok-krate.ensures.stands.fits c.in_err-typed.ensures.fault)

pub returns-clause-stands : goal.returns-clause-stands
returns-clause-stands c = subst (λ (krate : Crate). StandsFor c.args.state.now (crate_tree krate)) (sym c.in_ok-typed.ensures.same) c.in_ok-krate.ensures.stands
