use Rattle.std.proofs.Common.{sym, ◌∙◌, ap, drop, get_or, ◌+◌}
use Rattle.std.proofs.lemmas.List.{at_drop_more, at_drop_all}
use Rattle.need_order.specs.Gathering.{Gathering, with_item, with_items}
use Rattle.need_order.proofs.element.add_each.Goals as goal

pub loop-need-preserved : goal.loop-need-preserved
unfolding with_items
loop-need-preserved c = record {
  limit = ap (λ (g : Gathering). g.limit) c.in_ok-add.ensures ∙ c.loop-need.invariant.limit;
  items =
      ap (λ (g : Gathering). with_items c.args.set.now.limit (drop (c.loop-need.need-index + 1) c.args.needs.now) g.items) c.in_ok-add.ensures
      ∙ ap (λ m. with_items c.args.set.now.limit (drop (c.loop-need.need-index + 1) c.args.needs.now) (with_item m (get_or c.args.needs.now c.loop-need.need-index 0) c.loop-need.set.items)) c.loop-need.invariant.limit
      ∙ sym (at_drop_more (λ xs. with_items c.args.set.now.limit xs c.loop-need.set.items) c.args.needs.now c.loop-need.need-index 0 c.loop-need-test.true)
      ∙ c.loop-need.invariant.items;
}

pub returns : goal.returns
unfolding with_items
returns c = let e = sym (at_drop_all (λ xs. with_items c.args.set.now.limit xs c.loop-need.set.items) c.args.needs.now c.loop-need.need-index c.loop-need-test.false) ∙ c.loop-need.invariant.items in
    λ i. record { limit = c.loop-need.invariant.limit i; items = e i }
