use Rattle.std.proofs.Common.{ap, sym, ◌∙◌, ◌+◌, find}
use Rattle.svd_keys.specs.Children.{child, has_name}
use Rattle.svd_text.specs.Views.{element_of}
use Rattle.svd_keys.proofs.Loops.{left, left-all, left-next, found_here, found_later}
use Rattle.svd_keys.proofs.child.child.Goals as goal

pub loop-child-init : goal.loop-child-init
unfolding child
loop-child-init c = ap (find (has_name c.args.name.now)) (left-all c.args.element.now c.deref-child-items.result.now c.deref-child-items.ensures.value)

pub returns-then-has_name : goal.returns-then-has_name
returns-then-has_name c =
    found_here c.args.name.now (element_of c.child-item.result) (left c.deref-child-items.result.now (c.loop-child.child-index + 1)) (child c.args.name.now (element_of c.args.element.now))
    (sym c.has_name.ensures ∙ c.if-has_name.true)
    (ap (find (has_name c.args.name.now)) (sym (left-next c.deref-child-items.result.now c.loop-child.child-index c.child-item.result c.loop-child-test.true c.child-item.is)) ∙ c.loop-child.invariant)

pub loop-child-preserved : goal.loop-child-preserved
loop-child-preserved c =
    found_later c.args.name.now (element_of c.child-item.result) (left c.deref-child-items.result.now (c.loop-child.child-index + 1)) (child c.args.name.now (element_of c.args.element.now))
    (sym c.has_name.ensures ∙ c.if-has_name.false)
    (ap (find (has_name c.args.name.now)) (sym (left-next c.deref-child-items.result.now c.loop-child.child-index c.child-item.result c.loop-child-test.true c.child-item.is)) ∙ c.loop-child.invariant)
