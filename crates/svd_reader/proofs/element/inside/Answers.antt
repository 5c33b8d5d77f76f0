use Rattle.std.proofs.Common.{ap, sym, ◌∙◌, ◌+◌, find}
use Rattle.svd_schema.specs.Names.{container_name}
use Rattle.svd_keys.specs.Children.{child, has_name}
use Rattle.svd_keys.proofs.Loops.{left, left-all, left-next, left-none, found_here, found_later}
use Rattle.svd_text.specs.Views.{element_of}
use Rattle.svd_reader.proofs.Members.{inside-some, inside-none}
use Rattle.svd_reader.proofs.element.inside.Goals as goal

pub loop-child-init : goal.loop-child-init
unfolding child
loop-child-init c = ap (find (has_name (container_name c.args.container))) (left-all c.args.element.now c.deref-child-items.result.now c.deref-child-items.ensures.value)

pub returns-then-is_named : goal.returns-then-is_named
returns-then-is_named c =
    inside-some (container_name c.args.container) (element_of c.args.element.now) c.child-item.result c.as_slice.result.now c.as_slice.ensures.value
    (sym (found_here (container_name c.args.container) (element_of c.child-item.result) (left c.deref-child-items.result.now (c.loop-child.child-index + 1)) (child (container_name c.args.container) (element_of c.args.element.now))
    (sym c.is_named.ensures ∙ c.if-is_named.true)
    (ap (find (has_name (container_name c.args.container))) (sym (left-next c.deref-child-items.result.now c.loop-child.child-index c.child-item.result c.loop-child-test.true c.child-item.is)) ∙ c.loop-child.invariant)))

pub loop-child-preserved : goal.loop-child-preserved
loop-child-preserved c =
    found_later (container_name c.args.container) (element_of c.child-item.result) (left c.deref-child-items.result.now (c.loop-child.child-index + 1)) (child (container_name c.args.container) (element_of c.args.element.now))
    (sym c.is_named.ensures ∙ c.if-is_named.false)
    (ap (find (has_name (container_name c.args.container))) (sym (left-next c.deref-child-items.result.now c.loop-child.child-index c.child-item.result c.loop-child-test.true c.child-item.is)) ∙ c.loop-child.invariant)

pub returns : goal.returns
returns c =
    inside-none (container_name c.args.container) (element_of c.args.element.now)
    (sym (ap (find (has_name (container_name c.args.container))) (sym (left-none c.deref-child-items.result.now c.loop-child.child-index c.loop-child-test.false)) ∙ c.loop-child.invariant))
