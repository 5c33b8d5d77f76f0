-- One level more.
use Rattle.std.proofs.Common.{length, arith, refl, ◌∙◌, ap, sym, ◌+◌}
use Rattle.std.specs.List.{list_any}
use Rattle.need_order.proofs.Deepening.{all_set, deepened, no_flag, none_set}
use Rattle.need_order.proofs.Steps.{child_inside}
use Rattle.need_order.proofs.depth.deep.Goals as goal

pub loop-level-init : goal.loop-level-init
loop-level-init g c = all_set g.children (length c.args.elements.now) c.in_ok-flags.flags.items (c.in_ok-flags.ensures.items_if_clones_equal (λ y h. h))

pub returns-then-not-contains : goal.returns-then-not-contains
returns-then-not-contains g c =
    let n = length c.args.elements.now in
    let inside = child_inside c.args.elements.now c.args.dropped.now g.children n c.args.order.now c.requires.0 c.requires.1 in
    none_set g.children n inside (c.loop-level._level + 1) c.args.levels c.in_ok-next.next.items (omega (arith, c.loop-level-test.true))
    (deepened g.children n inside c.loop-level._level c.loop-level.flags.items c.as_slice.result.now c.in_ok-next.next.items c.loop-level.invariant c.as_slice.ensures.value c.in_ok-next.ensures)
    (no_flag _ c.in_ok-next.next.items (ap (list_any _) (sym c.deref.ensures.value) ∙ sym c.contains.ensures.value ∙ c.if-not-contains.true) refl)

pub loop-level-preserved : goal.loop-level-preserved
loop-level-preserved g c =
    deepened g.children (length c.args.elements.now) (child_inside c.args.elements.now c.args.dropped.now g.children (length c.args.elements.now) c.args.order.now c.requires.0 c.requires.1)
    c.loop-level._level c.loop-level.flags.items c.as_slice.result.now c.in_ok-next.next.items c.loop-level.invariant c.as_slice.ensures.value c.in_ok-next.ensures
