use Rattle.std.proofs.Common.{subst, sym}
use Rattle.std.proofs.lemmas.Result.{err_from_is_err_and}
use Rattle.frag_tree.specs.Trees.{crate_tree}
use Rattle.frag_tree.specs.declared.krate.Crate.{Crate}
use Rattle.pac_fault.specs.Classes.{class_of}
use Rattle.pac_fault.specs.declared.fault.PacFault.{PacFault}
use Rattle.pac_cli.specs.Scripts.{FitsAs}
use Rattle.pac_cli.specs.Stages.{TypesNot}
use Rattle.pac_cli.proofs.Scripts.{not_parsed, not_typed}
use Rattle.pac_cli.proofs.executing.typed.Goals as goal

pub returns-in_err-krate : goal.returns-in_err-krate
returns-in_err-krate c =
    let p = err_from_is_err_and c.from_residual.result c.from_residual.ensures.1 in
    rw p.1 (subst (λ (f : PacFault). TypesNot (class_of f) c.args.text.now f) (sym p.2) (not_parsed c.args.text.now c.in_err-krate.field-0.0 c.in_err-krate.ensures.refused))

pub returns-in_err-typed : goal.returns-in_err-typed
returns-in_err-typed c =
    let p = err_from_is_err_and c.from_residual-in_err-typed.result c.from_residual-in_err-typed.ensures.1 in
    rw p.1 (subst (λ (f : PacFault). TypesNot (class_of f) c.args.text.now f) (sym p.2)
    (not_typed c.args.text.now (crate_tree c.in_ok-krate.krate) c.in_err-typed.field-0.0.fault
    (record { spelled = c.in_ok-krate.ensures.spelled; within = c.in_ok-krate.ensures.bounded }) c.in_err-typed.ensures.fault))

pub returns : goal.returns
returns c =
    subst (λ (krate : Crate). FitsAs c.args.text.now (crate_tree krate)) (sym c.in_ok-typed.ensures.same) (record {
      tree = record { spelled = c.in_ok-krate.ensures.spelled; within = c.in_ok-krate.ensures.bounded };
      fits = c.in_ok-typed.ensures.fits;
    })
