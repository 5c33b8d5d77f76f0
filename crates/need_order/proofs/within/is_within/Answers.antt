-- One more element needs elements alone, or an element doesn't.
use Rattle.std.proofs.Common.{length, sym, refl, ◌∙◌}
use Rattle.std.proofs.lemmas.Bool.{true≢false}
use Rattle.need_order.proofs.Limits.{all_within, not_within, within_more}
use Rattle.need_order.proofs.within.is_within.Goals as goal

pub returns-then-needs_past : goal.returns-then-needs_past
returns-then-needs_past c = (
  λ no_way. absurd (true≢false (sym no_way)),
  λ within. absurd (not_within c.args.elements.now (length c.args.elements.now) c.loop-element.element-index c.element-item.result c.loop-element-test.true c.element-item.is (sym c.needs_past.ensures ∙ c.if-needs_past.true) within),
)

pub loop-element-preserved : goal.loop-element-preserved
loop-element-preserved c =
    within_more c.args.elements.now (length c.args.elements.now) c.loop-element.element-index c.element-item.result c.loop-element-test.true c.element-item.is (sym c.needs_past.ensures ∙ c.if-needs_past.false) c.loop-element.invariant

pub returns : goal.returns
returns c = (λ _. all_within c.args.elements.now (length c.args.elements.now) c.loop-element.element-index c.loop-element-test.false c.loop-element.invariant, λ _. refl)
