use Rattle.std.proofs.Common.{◌≡◌, length}
use Rattle.frag_sem.specs.CallPlaces.{leads}
use Rattle.frag_index.specs.Sites.{IsNumbered, inner_tree}
use Rattle.frag_index.proofs.place.leads.Given as goal

abbrev pub invariant-loop-step : goal.invariant-loop-step
invariant-loop-step l =
    IsNumbered l.fn.index.tops.sites.items l.at.unit.now × (leads l.rest (inner_tree l.at.unit.now) l.at.start ≡ leads l.fn.steps (inner_tree l.fn.from.unit.now) l.fn.from.start)

abbrev pub decreases-loop-step : goal.decreases-loop-step
decreases-loop-step l = length l.rest
