-- What elements need by their numbers is what they depend on by their paths.
use Rattle.std.proofs.Common.{List, length, map, sym, subst}
use Rattle.derive_order.proofs.Circles.{circle_told, no_circle}
use Rattle.derive_order.proofs.Ties.{within}
use Rattle.derive_sources.specs.Entries.{plain}
use Rattle.need_order.specs.declared.element.Element.{Element}
use Rattle.need_order.specs.Needs.{IsFaultOf, HasNoCircle as HasNone, IsWithin, needs}
use Rattle.derive_order.proofs.arranged.arrange.Goals as goal

pub ordered-requires : goal.ordered-requires
ordered-requires g c =
    subst (λ (elements : List Element). IsWithin (needs elements) (length elements)) (sym c.as_slice.ensures.value)
    (within g.all (map plain c.args.entries.now) c.requires.0 c.args.sources.now c.requires.1.0 c.in_ok-elements.elements.items c.in_ok-elements.ensures)

pub cycle_of-requires : goal.cycle_of-requires
cycle_of-requires g c =
    circle_told g.all (map plain c.args.entries.now) c.requires.0 c.args.sources.now c.requires.1.0 c.in_ok-elements.elements.items c.in_ok-elements.ensures c.requires.1.1 c.in-Err.fault
    (subst (λ (elements : List Element). IsFaultOf elements c.in-Err.fault) c.as_slice.ensures.value c.in-Err.ensures.circle)

pub returns-in-Ok-clause-no_circle : goal.returns-in-Ok-clause-no_circle
returns-in-Ok-clause-no_circle g c =
    no_circle g.all (map plain c.args.entries.now) c.requires.0 c.args.sources.now c.requires.1.0 c.in_ok-elements.elements.items c.in_ok-elements.ensures
    (subst (λ (elements : List Element). HasNone (needs elements)) c.as_slice.ensures.value c.in-Ok.ensures.no_circle)
