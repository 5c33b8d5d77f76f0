-- One pair of neighbours after the other.
use Rattle.std.proofs.Common.{sym, ◌∙◌}
use Rattle.patch_arrays.proofs.Checked.{steps-refused, uneven-alone, uneven-found, uneven-none, uneven-step}
use Rattle.patch_arrays.specs.Arranging.{placed_step}
use Rattle.patch_arrays.specs.Checks.{uneven_fault}
use Rattle.patch_arrays.specs.Members.{under_key}
use Rattle.patch_arrays.proofs.checking.check_steps.Goals as goal

pub returns-in_default-split_first : goal.returns-in_default-split_first
returns-in_default-split_first g c =
    sym c.loop-one.invariant ∙ uneven-alone (under_key g.M.Member.seen) c.args.step c.loop-one.rest.now c.in-Some.one.now c.in-Some.others.now c.in-Some.ensures.cases.0 c.in_default-split_first.ensures.cases

pub returns-then-is_uneven : goal.returns-then-is_uneven
returns-then-is_uneven g c =
    steps-refused (uneven_fault c.args.line) _ (placed_step (under_key g.M.Member.seen c.in-Some.one.now), placed_step (under_key g.M.Member.seen c.in-Some-split_first.other.now)) c.uneven.result
    (sym c.loop-one.invariant ∙ uneven-found (under_key g.M.Member.seen) c.args.step c.loop-one.rest.now c.in-Some.one.now c.in-Some.others.now c.in-Some-split_first.other.now c.in-Some-split_first.field-0-1.now c.in-Some.ensures.cases.0 c.in-Some-split_first.ensures.cases.0 (sym c.is_uneven.ensures ∙ c.if-is_uneven.true))
    c.uneven.ensures

pub loop-one-preserved : goal.loop-one-preserved
loop-one-preserved g c =
    sym (uneven-step (under_key g.M.Member.seen) c.args.step c.loop-one.rest.now c.in-Some.one.now c.in-Some.others.now c.in-Some-split_first.other.now c.in-Some-split_first.field-0-1.now c.in-Some.ensures.cases.0 c.in-Some-split_first.ensures.cases.0 (sym c.is_uneven.ensures ∙ c.if-is_uneven.false))
    ∙ c.loop-one.invariant

pub returns : goal.returns
returns g c = sym c.loop-one.invariant ∙ uneven-none (under_key g.M.Member.seen) c.args.step c.loop-one.rest.now c.in_default.ensures.cases
