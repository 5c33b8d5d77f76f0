-- The steps first, and then likeness.
use Rattle.std.proofs.Common.{map, ap, ◌∙◌}
use Rattle.std.proofs.lemmas.List.{length-map}
use Rattle.std.proofs.lemmas.Result.{err_from_is_err_and}
use Rattle.patch_arrays.proofs.Checked.{passes-likeness, passes-none, passes-steps}
use Rattle.patch_arrays.specs.Members.{under_key}
use Rattle.patch_arrays.proofs.making.check.Goals as goal

pub returns-in_err-check_steps : goal.returns-in_err-check_steps
returns-in_err-check_steps g c =
    let p = err_from_is_err_and c.from_residual.result c.from_residual.ensures.1 in
    rw (p.1, p.2) (passes-steps c.args.line (map (under_key g.M.Member.seen) c.args.members.now) c.first_step.result c.in_err-check_steps.field-0.0 c.first_step.ensures c.in_err-check_steps.ensures)

pub returns-in-None : goal.returns-in-None
returns-in-None g c = passes-none c.args.line (map (under_key g.M.Member.seen) c.args.members.now) (length-map c.args.members.now (under_key g.M.Member.seen) ∙ c.in-None.ensures.cases)

pub returns-in-Some : goal.returns-in-Some
returns-in-Some g c =
    passes-likeness c.args.line (map (under_key g.M.Member.seen) c.args.members.now) c.first_step.result (under_key g.M.Member.seen c.in-Some.first.now) (map (under_key g.M.Member.seen) c.in-Some.others.now) c.check_likeness.result c.first_step.ensures c.in_ok-check_steps.ensures
    (ap (map (under_key g.M.Member.seen)) c.in-Some.ensures.cases.0) c.check_likeness.ensures
