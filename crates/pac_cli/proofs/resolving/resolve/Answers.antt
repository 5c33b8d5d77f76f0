use Rattle.std.proofs.Common.{ap, sym, ◌∙◌, subst}
use Rattle.std.proofs.lemmas.Result.{err_from_is_err_and}
use Rattle.overlap_check.specs.Told.{faults}
use Rattle.pac_fault.specs.Classes.{class_of}
use Rattle.pac_fault.specs.declared.fault.PacFault.{PacFault}
use Rattle.pac_cli.specs.Resolving.{bytes_in}
use Rattle.pac_cli.specs.Stages.{ResolvesNot}
use Rattle.pac_cli.proofs.Stopping.{not_described, not_derived, not_unfolded, not_checked, patching_refused, was_resolved}
use Rattle.pac_cli.proofs.resolving.resolve.Goals as goal

pub returns-in_err-described : goal.returns-in_err-described
returns-in_err-described c =
    let p = err_from_is_err_and c.from_residual.result c.from_residual.ensures.1 in
    let source = bytes_in c.args.source in
    rw p.1 (subst (λ (f : PacFault). ResolvesNot (class_of f) source f) (sym p.2) (not_described source c.in_err-described.field-0.0 c.in_err-described.ensures.refused))

pub returns-in_err-patched : goal.returns-in_err-patched
returns-in_err-patched c =
    let p = err_from_is_err_and c.from_residual-in_err-patched.result c.from_residual-in_err-patched.ensures.1 in
    rw (p.1, p.2) (patching_refused (bytes_in c.args.source) c.in_ok-described.described c.in_err-patched.field-0.0 c.in_ok-described.ensures.ok c.in_err-patched.ensures)

pub returns-in_err-derived : goal.returns-in_err-derived
returns-in_err-derived c =
    let p = err_from_is_err_and c.from_residual-in_err-derived.result c.from_residual-in_err-derived.ensures.1 in
    let source = bytes_in c.args.source in
    rw p.1 (subst (λ (f : PacFault). ResolvesNot (class_of f) source f) (sym p.2)
    (not_derived source c.in_ok-described.described c.in_ok-patched.patched c.in_ok-described.ensures.ok c.in_ok-patched.ensures c.in_err-derived.field-0.0.fault c.in_err-derived.ensures.fault))

pub returns-in_err-unfolded : goal.returns-in_err-unfolded
returns-in_err-unfolded c =
    let p = err_from_is_err_and c.from_residual-in_err-unfolded.result c.from_residual-in_err-unfolded.ensures.1 in
    let source = bytes_in c.args.source in
    rw p.1 (subst (λ (f : PacFault). ResolvesNot (class_of f) source f) (sym p.2)
    (not_unfolded source c.in_ok-described.described c.in_ok-patched.patched c.in_ok-described.ensures.ok c.in_ok-patched.ensures
    c.in_ok-derived.derived c.in_err-unfolded.field-0.0.fault (c.in_ok-derived.ensures.rows, c.in_ok-derived.ensures.faultless) c.in_err-unfolded.ensures.fault))

pub returns-in_err-checked : goal.returns-in_err-checked
returns-in_err-checked c =
    let p = err_from_is_err_and c.from_residual-in_err-checked.result c.from_residual-in_err-checked.ensures.1 in
    let source = bytes_in c.args.source in
    rw p.1 (subst (λ (f : PacFault). ResolvesNot (class_of f) source f) (sym p.2)
    (not_checked source c.in_ok-described.described c.in_ok-patched.patched c.in_ok-described.ensures.ok c.in_ok-patched.ensures
    c.in_ok-derived.derived c.in_ok-unfolded.unfolded c.in_err-checked.field-0.0.fault
    (c.in_ok-derived.ensures.rows, c.in_ok-derived.ensures.faultless) (c.in_ok-unfolded.ensures.rows, c.in_ok-unfolded.ensures.faultless) c.in_err-checked.ensures.fault))

pub returns : goal.returns
returns c =
    was_resolved (bytes_in c.args.source) c.in_ok-described.described c.in_ok-patched.patched c.in_ok-described.ensures.ok c.in_ok-patched.ensures
    c.in_ok-derived.derived c.in_ok-unfolded.unfolded c.in_ok-checked.checked
    (c.in_ok-derived.ensures.rows, c.in_ok-derived.ensures.faultless) (c.in_ok-unfolded.ensures.rows, c.in_ok-unfolded.ensures.faultless)
    c.in_ok-checked.ensures.rows (ap (faults c.args.source.policy) (sym c.in_ok-checked.ensures.rows) ∙ c.in_ok-checked.ensures.asked)
