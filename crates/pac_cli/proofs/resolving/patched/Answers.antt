use Rattle.std.proofs.Common.{Some, map, subst, sym}
use Rattle.std.proofs.lemmas.Result.{err_from_is_err_and}
use Rattle.pac_fault.specs.Classes.{class_of}
use Rattle.pac_fault.specs.declared.fault.PacFault.{PacFault}
use Rattle.patch_model.specs.Acts.{order_of}
use Rattle.pac_cli.specs.Stages.{PatchesNot}
use Rattle.pac_cli.proofs.Stopping.{not_commanded, not_patched, unpatched_rows, was_patched}
use Rattle.pac_cli.proofs.resolving.patched.Goals as goal

pub returns-in_err-commands-in-Some : goal.returns-in_err-commands-in-Some
returns-in_err-commands-in-Some c =
    let p = err_from_is_err_and c.from_residual.result c.from_residual.ensures.1 in
    rw (c.in-Some.is, p.1, p.2) (not_commanded c.args.state c.in-Some.bytes.now (class_of c.in_err-commands-in-Some.field-0.0) c.in_err-commands-in-Some.field-0.0 c.in_err-commands-in-Some.ensures.read)

pub returns-in_err-patched-in-Some : goal.returns-in_err-patched-in-Some
returns-in_err-patched-in-Some c =
    let p = err_from_is_err_and c.from_residual-in_err-patched-in-Some.result c.from_residual-in_err-patched-in-Some.ensures.1 in
    rw (c.in-Some.is, p.1) (subst (λ (f : PacFault). PatchesNot (class_of f) c.args.state (Some c.in-Some.bytes.now) f) (sym p.2)
    (not_patched c.args.state c.in-Some.bytes.now (map order_of c.in_ok-commands-in-Some.commands) c.in_ok-commands-in-Some.ensures.read
    c.in_err-patched-in-Some.field-0.0.fault c.in_err-patched-in-Some.ensures.fault))

pub returns-in_ok-patched-in-Some : goal.returns-in_ok-patched-in-Some
returns-in_ok-patched-in-Some c =
    rw c.in-Some.is (was_patched c.args.state c.in-Some.bytes.now (map order_of c.in_ok-commands-in-Some.commands) c.in_ok-commands-in-Some.ensures.read
    c.in_ok-patched-in-Some.patched c.in_ok-patched-in-Some.ensures.rows)

pub returns-in-None : goal.returns-in-None
returns-in-None c = rw (c.in-None.is, c.new.ensures, c.into_device.ensures.rows) (unpatched_rows c.args.state)
