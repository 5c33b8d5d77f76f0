use Rattle.std.proofs.Common.{subst, sym}
use Rattle.std.proofs.lemmas.Result.{err_from_is_err_and}
use Rattle.frag_sem.specs.TextSurface.{text_surface}
use Rattle.frag_tree.specs.Trees.{crate_tree}
use Rattle.frag_tree.specs.declared.script.Script.{Script}
use Rattle.pac_fault.specs.Classes.{class_of}
use Rattle.pac_fault.specs.declared.fault.PacFault.{PacFault}
use Rattle.pac_cli.specs.Stages.{IsScriptFor, ScriptsNot}
use Rattle.pac_cli.proofs.Scripts.{not_fitting, not_read}
use Rattle.pac_cli.proofs.script.script_for.Goals as goal

pub returns-in_err-script : goal.returns-in_err-script
returns-in_err-script c =
    let p = err_from_is_err_and c.from_residual.result c.from_residual.ensures.1 in
    let surface = text_surface (crate_tree c.args.krate.now) in
    rw p.1 (subst (λ (f : PacFault). ScriptsNot (class_of f) surface c.args.text.now f) (sym p.2) (not_read surface c.args.text.now c.in_err-script.field-0.0 c.in_err-script.ensures.refused))

pub returns-in_err-typed : goal.returns-in_err-typed
returns-in_err-typed c =
    let p = err_from_is_err_and c.from_residual-in_err-typed.result c.from_residual-in_err-typed.ensures.1 in
    let surface = text_surface (crate_tree c.args.krate.now) in
    rw p.1 (subst (λ (f : PacFault). ScriptsNot (class_of f) surface c.args.text.now f) (sym p.2)
    (not_fitting surface c.args.text.now c.in_ok-script.script c.in_err-typed.field-0.0.fault
    (record { lines = c.in_ok-script.ensures.spelled; few = c.in_ok-script.ensures.bounded }) c.in_err-typed.ensures.fault))

pub returns : goal.returns
returns c =
    subst (λ (script : Script). IsScriptFor (text_surface (crate_tree c.args.krate.now)) c.args.text.now script) (sym c.in_ok-typed.ensures.same) (record {
      comes = record { lines = c.in_ok-script.ensures.spelled; few = c.in_ok-script.ensures.bounded };
      fits = c.in_ok-typed.ensures.fits;
    })
