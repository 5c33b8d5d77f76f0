use Rattle.std.proofs.Common.{◌≡◌, ◌≤◌, length}
use Rattle.need_order.specs.Needs.{needs}
use Rattle.need_order.proofs.Settling.{Sound}
use Rattle.need_order.proofs.settle.settle_all.Given as goal

abbrev pub invariant-loop-round : goal.invariant-loop-round
invariant-loop-round l = record {
  limit : l.set.limit ≡ length l.elements;
  sound : Sound (needs l.elements) (length l.elements) l.set.items;
  many : l.round ≤ length l.set.items;
}
