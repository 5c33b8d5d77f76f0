use Rattle.std.proofs.Common.{sym}
use Rattle.glob_select.proofs.Members.{any_found, any_goes_on, any_ends}
use Rattle.glob_select.proofs.member.any_has.Goals as goal

pub returns-then-has : goal.returns-then-has
returns-then-has c = any_found c.args.byte _ _ _ (sym c.in-Some.ensures.read) (sym c.if-has.ensures) c.loop-member.invariant

pub loop-member-preserved : goal.loop-member-preserved
loop-member-preserved c = any_goes_on c.args.byte _ _ _ (sym c.in-Some.ensures.read) (sym c.if-has.ensures) c.loop-member.invariant

pub returns : goal.returns
returns c = any_ends c.args.byte _ _ (sym c.in_default.ensures.read) c.loop-member.invariant
