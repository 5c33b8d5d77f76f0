use Rattle.std.proofs.Common.{◌≡◌, drop}
use Rattle.need_order.specs.Gathering.{with_items}
use Rattle.need_order.proofs.element.add_each.Given as goal

abbrev pub invariant-loop-need : goal.invariant-loop-need
invariant-loop-need l = record {
  limit : l.set.limit ≡ l.fn.set.limit;
  items : with_items l.fn.set.limit (drop l.need-index l.needs) l.set.items ≡ with_items l.fn.set.limit l.needs l.fn.set.items;
}
