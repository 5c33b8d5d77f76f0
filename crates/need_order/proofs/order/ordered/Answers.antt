-- All are settled, and stand in an order; or some are left, and needs run in a circle.
use Rattle.std.proofs.Common.{length, sym, subst, arith}
use Rattle.need_order.specs.Needs.{IsOrder, needs}
use Rattle.need_order.proofs.Following.{settled_order, ordered_no_circle}
use Rattle.need_order.proofs.Settling.{has_circle}
use Rattle.need_order.proofs.order.ordered.Goals as goal

pub returns-then-len-elements-clause-circle : goal.returns-then-len-elements-clause-circle
returns-then-len-elements-clause-circle c =
    (has_circle (needs c.args.elements.now) (length c.args.elements.now) c.in_ok-set.set.items c.requires c.in_ok-set.ensures (omega arith), c.in_ok-first_on_circle.ensures)

pub returns-clause-order : goal.returns-clause-order
returns-clause-order c =
    subst (IsOrder (needs c.args.elements.now) (length c.args.elements.now)) (sym c.into_items.ensures) (settled_order (needs c.args.elements.now) (length c.args.elements.now) c.in_ok-set.set.items c.in_ok-set.ensures (omega arith))

pub returns-clause-no_circle : goal.returns-clause-no_circle
returns-clause-no_circle c =
    ordered_no_circle (needs c.args.elements.now) (length c.args.elements.now) c.in_ok-set.set.items c.requires
    (settled_order (needs c.args.elements.now) (length c.args.elements.now) c.in_ok-set.set.items c.in_ok-set.ensures (omega arith))
