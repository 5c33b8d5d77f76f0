use Rattle.std.proofs.Common.{ap, ◌+◌, flat_map}
use Rattle.svd_keys.specs.Earliest.{least}
use Rattle.svd_keys.specs.Children.{unknown_in, unknown_at}
use Rattle.svd_text.specs.Views.{element_of}
use Rattle.svd_keys.proofs.Loops.{left, left-all, left-next, left-none, gathered, nothing_left, begun}
use Rattle.svd_keys.proofs.child.unknown_in.Goals as goal

pub loop-child-init : goal.loop-child-init
unfolding unknown_in
loop-child-init c = begun _ _ (ap (flat_map (unknown_at c.args.container)) (left-all c.args.element.now c.deref-child-items.result.now c.deref-child-items.ensures.value))

pub loop-child-preserved : goal.loop-child-preserved
loop-child-preserved c =
    gathered c.earlier-fault.result c.loop-child.fault c.unknown_at.result (least (unknown_in c.args.container (element_of c.args.element.now)))
    (unknown_at c.args.container (element_of c.child-item.result))
    (flat_map (unknown_at c.args.container) (left c.deref-child-items.result.now (c.loop-child.child-index + 1)))
    (flat_map (unknown_at c.args.container) (left c.deref-child-items.result.now c.loop-child.child-index))
    c.earlier-fault.ensures
    c.unknown_at.ensures
    (ap (flat_map (unknown_at c.args.container)) (left-next c.deref-child-items.result.now c.loop-child.child-index c.child-item.result c.loop-child-test.true c.child-item.is))
    c.loop-child.invariant

pub returns : goal.returns
returns c = nothing_left c.loop-child.fault (least (unknown_in c.args.container (element_of c.args.element.now))) _ (ap (flat_map (unknown_at c.args.container)) (left-none c.deref-child-items.result.now c.loop-child.child-index c.loop-child-test.false)) c.loop-child.invariant
