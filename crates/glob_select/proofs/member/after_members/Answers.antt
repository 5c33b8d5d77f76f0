use Rattle.std.proofs.Common.{sym, ◌∙◌}
use Rattle.glob_select.proofs.Members.{after_members-some, after_members-none}
use Rattle.glob_select.proofs.member.after_members.Goals as goal

pub loop-after-preserved : goal.loop-after-preserved
loop-after-preserved c = sym (after_members-some _ _ (sym c.in-Some.ensures.read)) ∙ c.loop-after.invariant

pub returns : goal.returns
returns c = sym (after_members-none _ (sym c.in_default.ensures.read)) ∙ c.loop-after.invariant
