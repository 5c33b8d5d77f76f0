use Rattle.std.proofs.Common.{◌≡◌, drop, length}
use Rattle.need_order.specs.Settling.{swept}
use Rattle.need_order.specs.Needs.{needs}
use Rattle.need_order.proofs.settle.sweep.Given as goal

abbrev pub invariant-loop-number : goal.invariant-loop-number
invariant-loop-number l = record {
  limit : l.set.limit ≡ l.fn.set.limit;
  items : swept (length l.elements) (needs l.elements) l.fn.set.limit (drop l.number-index l.numbers) l.set.items ≡ swept (length l.elements) (needs l.elements) l.fn.set.limit l.numbers l.fn.set.items;
}
