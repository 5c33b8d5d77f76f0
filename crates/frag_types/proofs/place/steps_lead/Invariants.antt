use Rattle.std.proofs.Common.{◌≡◌, length}
use Rattle.frag_index.specs.Sites.{IsNumbered, inner_tree}
use Rattle.frag_sem.specs.PlaceTyping.{steps_lead}
use Rattle.frag_types.proofs.place.steps_lead.Given as goal

abbrev pub invariant-loop-step : goal.invariant-loop-step
invariant-loop-step l = IsNumbered l.fn.index.tops.sites.items l.at.unit.now × (steps_lead (inner_tree l.at.unit.now) l.rest ≡ steps_lead (inner_tree l.fn.start.unit.now) l.fn.steps)

abbrev pub decreases-loop-step : goal.decreases-loop-step
decreases-loop-step l = length l.rest
