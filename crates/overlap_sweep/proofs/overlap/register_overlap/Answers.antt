-- The two places that the search finds are those of the first pair.
use Rattle.std.proofs.Common.{Some, sym, ap, ◌∙◌}
use Rattle.overlap_sweep.proofs.Overlapping.{told-some, told-none}
use Rattle.overlap_sweep.proofs.overlap.register_overlap.Goals as goal

pub returns-in_ok-told_at-in-Some-2 : goal.returns-in_ok-told_at-in-Some-2
returns-in_ok-told_at-in-Some-2 c =
    let told = told-some c.args.spots.now c.in-Some.meeting c.in_ok-meeting.field-0 c.in-Some.is c.in_ok-meeting.ensures in
    ap Some (λ i. record { first = c.in_ok-told_at-in-Some.ensures i; second = c.in_ok-told_at-in-Some-2.ensures i }) ∙ sym told

pub returns-in-None : goal.returns-in-None
returns-in-None c = sym (told-none c.args.spots.now c.in_ok-meeting.field-0 c.in-None.is c.in_ok-meeting.ensures)
