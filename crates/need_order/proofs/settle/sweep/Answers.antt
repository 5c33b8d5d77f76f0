use Rattle.std.proofs.Common.{sym, ◌∙◌, ap, drop, get_or, ◌+◌, length}
use Rattle.std.proofs.lemmas.List.{at_drop_more, at_drop_all}
use Rattle.need_order.specs.Gathering.{Gathering}
use Rattle.need_order.specs.Settling.{settled, swept}
use Rattle.need_order.specs.Needs.{needs}
use Rattle.need_order.proofs.settle.sweep.Goals as goal

pub loop-number-preserved : goal.loop-number-preserved
unfolding swept
loop-number-preserved c = record {
  limit = ap (λ (g : Gathering). g.limit) c.in_ok-settle.ensures ∙ c.loop-number.invariant.limit;
  items =
      ap (λ (g : Gathering). swept (length c.args.elements.now) (needs c.args.elements.now) c.args.set.now.limit (drop (c.loop-number.number-index + 1) c.args.numbers.now) g.items) c.in_ok-settle.ensures
      ∙ ap (λ m. swept (length c.args.elements.now) (needs c.args.elements.now) c.args.set.now.limit (drop (c.loop-number.number-index + 1) c.args.numbers.now) (settled (length c.args.elements.now) (needs c.args.elements.now) m (get_or c.args.numbers.now c.loop-number.number-index 0) c.loop-number.set.items)) c.loop-number.invariant.limit
      ∙ sym (at_drop_more (λ xs. swept (length c.args.elements.now) (needs c.args.elements.now) c.args.set.now.limit xs c.loop-number.set.items) c.args.numbers.now c.loop-number.number-index 0 c.loop-number-test.true)
      ∙ c.loop-number.invariant.items;
}

pub returns : goal.returns
unfolding swept
returns c = let e = sym (at_drop_all (λ xs. swept (length c.args.elements.now) (needs c.args.elements.now) c.args.set.now.limit xs c.loop-number.set.items) c.args.numbers.now c.loop-number.number-index c.loop-number-test.false) ∙ c.loop-number.invariant.items in
    λ i. record { limit = c.loop-number.invariant.limit i; items = e i }
