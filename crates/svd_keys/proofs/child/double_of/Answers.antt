use Rattle.std.proofs.Common.{ap, sym, ◌∙◌, ◌+◌, ◌&&◌, ◌++◌, false}
use Rattle.svd_keys.specs.Earliest.{least}
use Rattle.svd_keys.specs.Children.{double_of, when, double}
use Rattle.svd_keys.specs.Runs.{doubles_among}
use Rattle.svd_text.specs.Views.{element_of}
use Rattle.svd_keys.proofs.Loops.{left, left-all, left-next, left-none, gathered, nothing_left, begun, doubles-among, doubles-step}
use Rattle.svd_keys.proofs.child.double_of.Goals as goal

pub loop-child-init : goal.loop-child-init
unfolding double_of
loop-child-init c = begun _ _ (ap (doubles_among c.args.name.now false) (left-all c.args.element.now c.deref-child-items.result.now c.deref-child-items.ensures.value) ∙ doubles-among c.args.name.now _)

pub loop-child-preserved : goal.loop-child-preserved
loop-child-preserved c =
    gathered c.earlier-fault.result c.loop-child.fault c.again.result (least (double_of c.args.name.now (element_of c.args.element.now)))
    (when (c.loop-child.seen && c.has_name-named.result) (double (element_of c.child-item.result)))
    (doubles_among c.args.name.now c.either-seen.result (left c.deref-child-items.result.now (c.loop-child.child-index + 1)))
    (doubles_among c.args.name.now c.loop-child.seen (left c.deref-child-items.result.now c.loop-child.child-index))
    c.earlier-fault.ensures
    c.again.ensures
    (ap (doubles_among c.args.name.now c.loop-child.seen) (left-next c.deref-child-items.result.now c.loop-child.child-index c.child-item.result c.loop-child-test.true c.child-item.is) ∙ doubles-step c.args.name.now c.loop-child.seen c.has_name-named.result (element_of c.child-item.result) (left c.deref-child-items.result.now (c.loop-child.child-index + 1)) c.has_name-named.ensures ∙ ap (λ seen. when (c.loop-child.seen && c.has_name-named.result) (double (element_of c.child-item.result)) ++ doubles_among c.args.name.now seen (left c.deref-child-items.result.now (c.loop-child.child-index + 1))) (sym c.either-seen.ensures))
    c.loop-child.invariant

pub returns : goal.returns
unfolding doubles_among
returns c = nothing_left c.loop-child.fault (least (double_of c.args.name.now (element_of c.args.element.now))) _ (ap (doubles_among c.args.name.now c.loop-child.seen) (left-none c.deref-child-items.result.now c.loop-child.child-index c.loop-child-test.false)) c.loop-child.invariant
